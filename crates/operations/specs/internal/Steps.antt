-- The calls that work on a lent record in place: the lines of each in checking order, and what it leaves: what only the
-- proofs name.
use Rattle.std.specs.Prelude.{Bool, cond, ◌≡◌, ℕ}
use Rattle.record.specs.Lent.{LentRecord, held_rows}
use Rattle.operations.specs.Measurement.{is_determined, outcome, pauli_letter}

-- ---- the operations
-- what is read off a record before a measurement: whether it is determined, and then the sign
pub record ReadOff (l : LentRecord) (pauli q : ℕ) (determined minus : Bool) : Type 0 where
  pub known : determined ≡ is_determined l.n (held_rows l) (pauli_letter pauli) q
  pub reading : (b : Bool) → outcome l.n (held_rows l) (pauli_letter pauli) q b ≡ cond determined minus b
