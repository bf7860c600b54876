-- The call on two records, from what the functions below it answer: the number of two records together is the earlier
-- of their numbers, and reduced copies hold the reduced records of the records' generators.
use mathlib.Core.Bool.{Bool, false, true, ◌||◌}
use mathlib.Core.List.{List}
use mathlib.Core.Path.{ap, ap₂, refl, subst, sym, ◌∙◌, ◌≡◌}
use Prim.Native.Nat.{ℕ, ◌≤◌}
use lib.ListN.{length}
use Rattle.calls.proofs.RecordPairLines.{counts-agree, records-answered, records-number}
use Rattle.buffers.proofs.Lines.{fits, not-held}
use Rattle.buffers.specs.Refusals.{first_fitting, other_than}
use Rattle.comparison_parts.proofs.ReducedPairs.{reduced-accepted}
use Rattle.comparison.specs.internal.ComparedPairs.{HoldsReduced, PairAnswered}
use Rattle.buffers.proofs.Calling.{refused}
use Rattle.buffers.proofs.Fitting.{stays}
use Rattle.buffers.specs.Calls.{Call}
use Rattle.buffers.proofs.EarlierNumbers.{earlier-none}
use Rattle.buffers.specs.internal.Earlier.{earlier_of}
use Rattle.operations.specs.internal.KeptGroups.{Normalised}
use Rattle.operations.specs.internal.InPlace.{Unrefused, record_in}
use Rattle.record.proofs.AcceptedRecords.{accepted-record}
use Rattle.record.specs.Accepted.{AcceptedRecord}
use Rattle.record.specs.Lent.{held_rows, LentRecord, lent_record, record_lengths, record_lines}
use Rattle.stabilizer.proofs.SharedTests.{has-length}
use Rattle.words.proofs.Flags.{neither}
use Rattle.calls.specs.internal.Limited.{comparing_records_call}
use Rattle.calls.specs.RecordComparisons.{records_count, records_lines}

-- ---- reduced copies
-- a copy that was reduced holds the reduced record
pub copied-reduced : (nb cs : List ℕ) → Unrefused (record_in nb cs) → (w b : List ℕ) → (w ≡ nb) × (b ≡ cs) →
    (w' b' : List ℕ) → Normalised w b w' b' → HoldsReduced (length nb) (held_rows (record_in nb cs)) w' b'
copied-reduced nb cs U w b E w' b' N =
    subst (λ r. HoldsReduced r.n (held_rows r) w' b') (ap₂ record_in E.0 E.1) (record {
      proper = (accepted-record (record_in w b) false false
          (subst Unrefused (sym (ap₂ record_in E.0 E.1)) U).no_line).proper;
      words = N.after.neighbours;
      numbers = N.after.numbers;
    })

module _ (n : ℕ) (nb cs : List ℕ) (U : Unrefused (lent_record n nb cs)) where
  abbrev pub lent : LentRecord
  lent = lent_record n nb cs

  pub lent-accepted : AcceptedRecord lent
  lent-accepted = accepted-record lent false false U.no_line

  pub lent-in : Unrefused (record_in nb cs)
  lent-in =
      subst (λ k. Unrefused (lent_record k nb cs)) (sym lent-accepted.neighbours-length) U

  module _ {w b : List ℕ} (H : HoldsReduced (length nb) (held_rows (record_in nb cs)) w b) where
    pub lent-reduced : HoldsReduced n (held_rows lent) w b
    lent-reduced =
        subst (λ k. HoldsReduced k (held_rows (lent_record k nb cs)) w b)
        lent-accepted.neighbours-length H

    pub reduced-fits : AcceptedRecord (lent_record n w b)
    reduced-fits = reduced-accepted n (held_rows lent) w b lent-reduced lent-accepted.positive lent-accepted.upto

-- ---- the call
module _ (limited : Bool) (l m : LentRecord) (choice list : List ℕ) where
  pub refused-2 : (count : ℕ) → records_count l m ≡ true →
      Call (comparing_records_call limited l m choice list count choice list count) 2
  refused-2 count h = record { number = sym (fits 2 _ h); held = (refl, (refl, (refl, tt))) }

  -- what the two checks answer where line 2 does not hold
  module _ (p : records_count l m ≡ false) {others : Bool}
      (o : others ≡ (other_than l.n choice || other_than 96 list)) {r r₂ early : ℕ}
      (e₁ : r ≡ first_fitting (record_lines l others false)) (e₂ : r₂ ≡ first_fitting (record_lines m false false))
      (e : early ≡ earlier_of r r₂) where
    early-is : early ≡ first_fitting (records_lines l m choice list)
    early-is = e ∙ ap₂ earlier_of e₁ e₂ ∙ sym (records-number l m choice list p o)

    pub compare-refused : (count : ℕ) → (early ≡ 0 → ⊥) →
        Call (comparing_records_call limited l m choice list count choice list count) early
    compare-refused count h = refused _ (stays (records_lines l m choice list) _ early-is h) h (refl, (refl, (refl, tt)))

    module _ (a : early ≡ 0) where
      none : (r ≡ 0) × (r₂ ≡ 0)
      none = earlier-none r r₂ (sym e ∙ a)

      first_passes : first_fitting (record_lines l others false) ≡ 0
      first_passes = sym e₁ ∙ none.0

      no-others : others ≡ false
      no-others = (neither (record_lengths l) others (not-held 3 _ _ (not-held 1 _ _ first_passes).1).0).1

      pub first-unrefused : Unrefused l
      first-unrefused =
          record { no_line = ap (λ b. first_fitting (record_lines l b false)) (sym no-others) ∙ first_passes }

      -- the second record, with the first's number of qubits
      abbrev other : LentRecord
      other = lent_record l.n m.neighbours m.codes

      other-is : other ≡ m
      other-is = λ i. lent_record (counts-agree l m choice list p i) m.neighbours m.codes

      pub second-unrefused : Unrefused other
      second-unrefused = subst Unrefused (sym other-is) (record { no_line = sym e₂ ∙ none.1 })

      pub few : l.n ≤ 64
      few = (accepted-record l false false first-unrefused.no_line).upto

      pub choice-fits : length choice ≡ l.n
      choice-fits =
          has-length l.n choice (neither (other_than l.n choice) (other_than 96 list) (sym o ∙ no-others)).0

      pub list-fits : length list ≡ 96
      list-fits = has-length 96 list (neither (other_than l.n choice) (other_than 96 list) (sym o ∙ no-others)).1

      -- the comparison of the two reduced records decides
      pub compare-decided : {count k : ℕ} {choice' list' : List ℕ} {count' : ℕ} →
          PairAnswered limited l.n (held_rows l) (held_rows other) choice list count k choice' list' count' →
          Call (comparing_records_call limited l m choice list count choice' list' count') k
      compare-decided {count} {k} {choice'} {list'} {count'} P =
          let Q = subst (λ s. PairAnswered limited l.n (held_rows l) (held_rows s) choice list count k choice' list'
          count')
          other-is P in
          records-answered l m choice list p (sym early-is ∙ a) Q
