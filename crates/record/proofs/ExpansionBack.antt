-- "expansion brings that group back": the list that an accepted record expands to.
use mathlib.Core.Bool.{false}
use mathlib.Core.Path.{◌≡◌}
use Prim.Native.Nat.{◌<◌, ℕ, ◌≤◌}
use Rattle.buffers.specs.Refusals.{first_fitting}
use Rattle.pauli.specs.Pauli.{Pauli, identity}
use Rattle.stabilizer.proofs.Accepted.{AcceptedList}
use Rattle.stabilizer.proofs.GroupLaws.{same-sym, same-trans}
use Rattle.stabilizer.proofs.ReadBack.{back-formed, back_passes, back-proper, back-same, row-past, rows_back}
use Rattle.stabilizer.specs.Groups.{Proper, SameGroup}
use Rattle.stabilizer.specs.Lists.{GeneratorList, list_lines, list_of, rows}
use Rattle.record.proofs.AcceptedRecords.{accepted-record}
use Rattle.record.proofs.ReducedRecords.{equal-exactly}
use Rattle.record.proofs.WrittenRecords.{reduced-held-same, reduced-passes, written_record}
use Rattle.record.specs.Accepted.{AcceptedRecord}
use Rattle.record.specs.Lent.{LentRecord, held_rows}
use Rattle.record.specs.Records.{SameRecord}
use Rattle.record.specs.Reduced.{reduced}

-- the expanded list
abbrev pub expanded : LentRecord → GeneratorList
expanded l = list_of l.n (held_rows l)

-- it is refused by no line, and its generators are the record's
pub record ExpandedBack (l : LentRecord) : Type 0 where
  pub passes : first_fitting (list_lines (expanded l) false) ≡ 0
  pub list : AcceptedList (expanded l)
  pub generators : (j : ℕ) → j < l.n → rows (expanded l) j ≡ held_rows l j
  pub above : (j : ℕ) → l.n ≤ j → rows (expanded l) j ≡ identity
  pub group : SameGroup l.n l.n (held_rows l) (rows (expanded l))

pub expansion-back : (l : LentRecord) → AcceptedRecord l → ExpandedBack l
expansion-back l A =
    let P = A.proper in
    record {
      passes = back_passes l.n (held_rows l) P A.positive A.upto;
      list =
          record {
            formed = back-formed l.n (held_rows l) P A.positive A.upto;
            proper = back-proper l.n (held_rows l) P;
          };
      generators = rows_back l.n (held_rows l) P;
      above = row-past l.n (held_rows l);
      group = back-same l.n (held_rows l) P;
    }

-- a list that has the group of a record reduces to what the expansion of the record reduces to
expansion-reduces : (l : LentRecord) → AcceptedRecord l → (R : ℕ → Pauli) → Proper l.n R →
    SameGroup l.n l.n R (held_rows l)
    → SameRecord (reduced l.n (rows (expanded l))) (reduced l.n R)
expansion-reduces l A R P E =
    (equal-exactly l.n (rows (expanded l)) R (back-proper l.n (held_rows l) A.proper) P).1
    (same-sym (same-trans E (back-same l.n (held_rows l) A.proper)))

-- so the expansion of a reduced record reduces to it
pub reduced-expands-back : (n : ℕ) (R : ℕ → Pauli) → Proper n R → 1 ≤ n → n ≤ 64 →
    SameRecord (reduced n (rows (expanded (written_record n (reduced n R))))) (reduced n R)
reduced-expands-back n R P positive upto =
    expansion-reduces (written_record n (reduced n R))
    (accepted-record (written_record n (reduced n R)) false false (reduced-passes n R P positive upto)) R P
    (reduced-held-same n R P)
