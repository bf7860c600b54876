-- What a record stands for: it is a record again after a call, and the products of its generators are the group's
-- elements.
use Rattle.std.specs.Prelude.{false, List, ◌↔◌, ◌≡◌, ℕ}
use Rattle.buffers.specs.Refusals.{first_fitting}
use Rattle.pauli.specs.Pauli.{Pauli}
use Rattle.record.specs.Lent.{held_rows, LentRecord, lent_record, record_lines}
use Rattle.stabilizer.specs.Groups.{InGroup}
use Rattle.operations.specs.Used.{UsedRecord, used_lines}

-- the record that a call leaves
abbrev pub left : LentRecord → List ℕ → List ℕ → LentRecord
left l nb cs = lent_record l.n nb cs

-- it is a record again, so that the next call is about it
abbrev pub StillRecord : LentRecord → Type 0
StillRecord l = first_fitting (record_lines l false false) ≡ 0

-- a record stands for a group: no line refuses it, and the products of its generators are the group's elements
pub record StandsFor (u : UsedRecord) (G : Pauli → Type 0) : Type 0 where
  pub still : first_fitting (used_lines u false false false) ≡ 0
  pub elements : (p : Pauli) → InGroup u.held.n u.held.n (held_rows u.held) p ↔ G p
