-- Records rewritten where they are lent: what the operations on two buffers promise.
use Rattle.std.specs.Prelude.{Bool, false, List, ◌≡◌, ℕ, length}
use Rattle.buffers.specs.Refusals.{first_fitting}
use Rattle.record.specs.Lent.{
  code_numbers,
  held_record,
  held_rows,
  LentRecord,
  lent_record,
  neighbour_words,
  record_lines,
}
use Rattle.record.specs.Records.{GraphRecord, rows_of}
use Rattle.record.specs.Reduced.{reduced}
use Rattle.operations.specs.Measurement.{measured_outcome, measured_rows, pauli_letter}
use Rattle.operations.specs.declared.Outcome.{Outcome}

-- the record that two lent buffers hold, n being the length of the first
abbrev pub record_in : List ℕ → List ℕ → LentRecord
record_in words codes = lent_record (length words) words codes

-- no line of a record refuses it
pub record Unrefused (l : LentRecord) : Type 0 where
  pub no_line : first_fitting (record_lines l false false) ≡ 0

-- two buffers held a record, and hold what f makes of it
pub record Rewritten (words codes : List ℕ) (f : GraphRecord → GraphRecord)
    (words' codes' : List ℕ) : Type 0 where
  pub neighbours : words' ≡ neighbour_words (length words) (f (held_record (record_in words codes)))
  pub numbers : codes' ≡ code_numbers (length words) (f (held_record (record_in words codes)))

-- a measurement on two buffers: "All three answer the reduced record of the new group"
pub record MeasuredInPlace (words codes : List ℕ) (pauli q : ℕ) (bit : Bool) (r : Outcome)
    (words' codes' : List ℕ) : Type 0 where
  pub after : Rewritten words codes
      (λ g. reduced (length words)
      (measured_rows (length words) (rows_of (length words) g) (pauli_letter pauli) q bit))
      words' codes'
  pub answer : r ≡ measured_outcome (length words) (held_rows (record_in words codes)) (pauli_letter pauli) q bit
