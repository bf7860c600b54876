-- A row measured on a record where it is lent: what the function on two buffers promises.
use Rattle.std.specs.Prelude.{Bool, List, ◌≡◌, ℕ, length}
use Rattle.operations.specs.declared.Outcome.{Outcome}
use Rattle.operations.specs.internal.InPlace.{Rewritten, record_in}
use Rattle.record.specs.Lent.{held_rows}
use Rattle.record.specs.Records.{rows_of}
use Rattle.record.specs.Reduced.{reduced}
use Rattle.parity.specs.RowMeasurement.{row_measured, row_outcome}

-- "The reduced record is left"
abbrev pub RowLeft : List ℕ → List ℕ → ℕ → ℕ → Bool → List ℕ → List ℕ → Type 0
RowLeft words codes z x bit words' codes' = Rewritten words codes
    (λ g. reduced (length words) (row_measured (length words) (rows_of (length words) g) z x bit)) words' codes'

-- the record, and what is answered
pub record RowInPlace (words codes : List ℕ) (z x : ℕ) (bit : Bool) (r : Outcome) (words' codes' : List ℕ)
    : Type 0 where
  pub after : RowLeft words codes z x bit words' codes'
  pub answer : r ≡ row_outcome (length words) (held_rows (record_in words codes)) z x bit
