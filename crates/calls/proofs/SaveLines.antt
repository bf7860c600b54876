-- The lines of a save before the last: the number is the earlier of the record's and the store's.
use mathlib.Core.Bool.{false, ◌||◌}
use mathlib.Core.Path.{ap₂, sym, ◌∙◌, ◌≡◌}
use Prim.Native.Nat.{ℕ}
use Rattle.buffers.specs.Refusals.{first_fitting}
use Rattle.buffers.proofs.EarlierNumbers.{earlier-none}
use Rattle.buffers.specs.internal.Earlier.{earlier_of}
use Rattle.store.proofs.ManyRecords.{earlier-of-two, told-by-number}
use Rattle.store.proofs.StoreNumbers.{record-number}
use Rattle.store.specs.Places.{Store}
use Rattle.store.specs.StoreLines.{holds_line, of_record, record_tests, store_lines}
use Rattle.operations.specs.Used.{UsedRecord, used_lines}

module _ (u : UsedRecord) (st : Store) where
  -- the record and the store together
  pub both-numbers : first_fitting (record_tests (λ m. of_record u m || holds_line m (store_lines 8 st false)))
      ≡ earlier_of (first_fitting (used_lines u false false false)) (first_fitting (store_lines 8 st false))
  both-numbers = earlier-of-two (of_record u) (λ m. holds_line m (store_lines 8 st false))
      ∙ ap₂ earlier_of (record-number u) (told-by-number _ _ _ _ _)

  -- neither has a line that holds
  pub no_number : (k : ℕ) → k ≡ first_fitting (record_tests (λ m. of_record u m || holds_line m (store_lines 8 st false)))
      → k ≡ 0 → (first_fitting (used_lines u false false false) ≡ 0) × (first_fitting (store_lines 8 st false) ≡ 0)
  no_number k e z = earlier-none _ _ (sym both-numbers ∙ sym e ∙ z)
