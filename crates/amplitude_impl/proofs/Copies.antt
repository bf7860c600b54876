-- The smallest word of a copy of a record is the record's.
use mathlib.Core.List.{List}
use mathlib.Core.Path.{ap₂, sym, ◌∙◌, ◌≡◌}
use Prim.Native.Nat.{ℕ}
use lib.ListN.{length}
use Rattle.amplitude.proofs.LowestOfRecord.{lowest-of-record}
use Rattle.amplitude.specs.internal.Measuring.{outcomes_down}
use Rattle.amplitude.specs.Ratios.{lowest}
use Rattle.operations.proofs.UnrefusedRecords.{unrefused-simple}
use Rattle.operations.specs.internal.InPlace.{Unrefused, record_in}
use Rattle.record.specs.Lent.{held_record, held_rows}
use Rattle.words.specs.Bits.{word_of}

module _ (words codes : List ℕ) (U : Unrefused (record_in words codes)) (words' codes' : List ℕ)
    (e : (words' ≡ words) × (codes' ≡ codes)) where
  pub copied-lowest : (low : ℕ)
      → low ≡ word_of (length words') (outcomes_down (length words') (held_record (record_in words' codes')))
      → low ≡ lowest (length words) (held_rows (record_in words codes))
  copied-lowest low h =
      h ∙ ap₂ (λ w k. word_of (length w) (outcomes_down (length w) (held_record (record_in w k)))) e.0 e.1
      ∙ sym (lowest-of-record (length words) (held_record (record_in words codes)) (unrefused-simple words codes U))
