-- The measurement of a Pauli row: what is claimed of it holds, by its contract and the laws of the group afterwards.
use mathlib.Core.Bool.{Bool, cond, false, true}
use mathlib.Core.List.{List, [], ◌∷◌}
use mathlib.Core.Logic.Iff
use mathlib.Core.Logic.{◌↔◌, ◌⊎◌, inl, inr}
use mathlib.Core.Path.{◌∙◌, ◌≡◌, ap, ap₂, refl, subst, sym}
use Prim.Native.Nat.{◌<◌, ℕ}
use native.Mathlib.Nat.{mod-eq_of_lt}
use native.Mathlib.Omega.{arith}
use lib.Dec.{eqb, leb}
use borrow.Author.Tests.{lt-leb}
use Rattle.buffers.proofs.SentenceLaws.{
  Decides,
  Matches,
  and-decides,
  and_then,
  from,
  itself,
  or-decides,
  or-none,
  some-decides,
  stray,
}
use Rattle.buffers.specs.Calls.{Call}
use Rattle.buffers.specs.Refusals.{first_fitting, line}
use Rattle.buffers.specs.Sentences.{Stray, sentence}
use Rattle.calls.specs.Expectations.{expectation_call}
use Rattle.calls.specs.Parities.{measure_row_call}
use Rattle.calls.specs.Sources.{observe_call}
use Rattle.claims.proofs.ExpectationDemandHolds.{letter-words}
use Rattle.claims.proofs.GatesFollow.{answer-reduced, answer-still}
use Rattle.claims.proofs.LinesExactly.{below-exactly, both-pass}
use Rattle.claims.proofs.NumbersHold.{in_words}
use Rattle.claims.proofs.UsedExactly.{record_of, used-exactly}
use Rattle.claims.proofs.families.Expectations.{expectations-accepted}
use Rattle.claims.proofs.families.Shared.{answered, at_zero, by_lines, table-fills}
use Rattle.claims.specs.Conforming.{Conforms}
use Rattle.claims.specs.ExpectationDemand.{letter_word}
use Rattle.claims.specs.UsedDemand.{UsedCopied, left_used}
use Rattle.expectation.proofs.CarriedValues.{value-carried}
use Rattle.expectation.proofs.ReadWords.{row-of-words}
use Rattle.jobs.specs.Standing.{left}
use Rattle.operations.proofs.UsedInWords.{used-in-words}
use Rattle.operations.specs.Measurement.{determined_number, outcome_number, pauli_letter, single}
use Rattle.operations.specs.Used.{UsedRecord, used_lines}
use Rattle.operations.specs.UsedLaws.{UsedStay}
use Rattle.operations.specs.UsedSentences.{used_sentences}
use Rattle.operations.specs.declared.Outcome.TheVariants.{Chosen, Determined}
use Rattle.parity.proofs.RowGroups.{row-element, row-group, row_kept, row-proper}
use Rattle.parity.proofs.RowLetters.{letter-outcome, letter-rows}
use Rattle.parity.proofs.RowPassing.{
  RowReady,
  idle-on-used,
  idle-passes,
  row-accepted,
  row-passes,
  row-ready,
  row-sixteen,
}
use Rattle.parity.proofs.RowUsed.{row-left-passes, row_stays}
use Rattle.parity.proofs.RowValues.{identity-value, value_after}
use Rattle.parity.specs.RowLines.{acts_on_used, measure_row_lines, row_arguments}
use Rattle.parity.specs.RowMeasurement.{row_measured, row_value}
use Rattle.expectation.proofs.ValueLaws.{value-minus, value-plus}
use Rattle.pauli.specs.Pauli.{Pauli, signed_row, x_bit, z_bit}
use Rattle.record.proofs.AcceptedRecords.{accepted-record}
use Rattle.record.proofs.RecordInWords.{code-above-23, misfits, stray-neighbour}
use Rattle.record.proofs.WrittenRecords.{reduced-held-same, written_record}
use Rattle.record.specs.Lent.{LentRecord, code_numbers, held_rows, neighbour_words}
use Rattle.record.specs.RecordSentences.{CodeAbove23, RecordMisfits, StrayNeighbour}
use Rattle.record.specs.Reduced.{reduced}
use Rattle.stabilizer.specs.Groups.{InGroup, Proper, SameGroup}
use Rattle.words.proofs.BitLaws.{digit-odd, is_odd-digit}
use Rattle.words.specs.Bits.{bit, digit, is_odd}
use Rattle.claims_parity.specs.Parities.{
  UsedActedOn,
  MeasureRowSays,
  RowFits,
  RowStands,
  SameAnswers,
  measure_row_sentences,
}

-- the two numbers of an outcome, by whether it is open
open-numbers : (o m b : Bool) → o ≡ true
    → (outcome_number (cond o (Chosen b) (Determined m)) ≡ digit b) ×
    (determined_number (cond o (Chosen b) (Determined m)) ≡ 0)
open-numbers o m b e = (
  ap (λ t. outcome_number (cond t (Chosen b) (Determined m))) e,
  ap (λ t. determined_number (cond t (Chosen b) (Determined m))) e,
)

known-numbers : (o m b : Bool) → o ≡ false
    → (outcome_number (cond o (Chosen b) (Determined m)) ≡ digit m) ×
    (determined_number (cond o (Chosen b) (Determined m)) ≡ 1)
known-numbers o m b e = (
  ap (λ t. outcome_number (cond t (Chosen b) (Determined m))) e,
  ap (λ t. determined_number (cond t (Chosen b) (Determined m))) e,
)

either-digit : {v : ℕ} (d : Bool) → v ≡ digit d → (v ≡ 0) ⊎ (v ≡ 1)
either-digit true e = inr e
either-digit false e = inl e

-- a test is true or false
tested : {A : Type 0} (o : Bool) → (o ≡ true → A) → (o ≡ false → A) → A
tested true t f = t refl
tested false t f = f refl

acts : (u : UsedRecord) (z x : ℕ) → Decides (acts_on_used u z x) (UsedActedOn u z x)
unfolding acts_on_used
acts u z x = some-decides u.held.n _ _ (λ q. and-decides (itself {a = bit u.used q}) (or-decides itself itself))

module _ (u : UsedRecord) (z x b : ℕ) where
  row-lines : (first_fitting (measure_row_lines u z x b) ≡ 0) ↔ RowFits u z x b
  row-lines = (
    (λ e. let h = row-passes u z x b e in
        let F = row-ready u z x b h.0 in
        record {
          held = record_of u F.held F.no_stray F.none-wrong;
          z-below = F.z-below;
          x_below = F.x_below;
          bit_below = F.bit_below;
          idle = idle-on-used u z x b h.1 F.no_stray F.none-wrong;
        }),
    (λ F. sym (row-accepted u z x b (sym ((used-exactly u false _ (leb 2 b)).1 (
      F.held,
      refl,
      both-pass ((below-exactly _ z).1 F.z-below) ((below-exactly _ x).1 F.x_below),
      lt-leb 2 b F.bit_below,
    ))) refl (idle-passes u z x b F.idle))),
  )

  -- the tests decide the sentences
  row-in-words : Matches (measure_row_lines u z x b) (measure_row_sentences u z x b)
  row-in-words = and_then (row_arguments u z x b) (line 16 (acts_on_used u z x) ∷ [])
      (used_sentences u (RecordMisfits u.held)
      (StrayNeighbour u.held ⊎ (Stray u.held.n u.used ⊎ (Stray u.held.n z ⊎ Stray u.held.n x)))
      (CodeAbove23 u.held ⊎ (1 < b)))
      (sentence 16 (UsedActedOn u z x) ∷ [])
      (used-in-words u false _ _ _ _ _ (or-none (misfits u.held))
      (or-decides (stray-neighbour u.held)
      (or-decides (stray u.held.n u.used) (or-decides (stray u.held.n z) (stray u.held.n x))))
      (or-decides (code-above-23 u.held) (from 1 b)))
      (λ e. (refl, (acts u z x, λ e. tt)))

  module _ (answer determined : ℕ) (nb' cs' : List ℕ) (answer' determined' : ℕ) where
    row-conforms : Conforms (measure_row_call u z x b answer determined nb' cs' answer' determined')
    row-conforms =
        record {
          order = refl;
          complete = λ e. let A = (row-ready u z x b (row-passes u z x b e).0).held in (
            tt,
            (
              tt,
              (
                table-fills u.held.n _ u.held.neighbours A.neighbours-length,
                (table-fills u.held.n _ u.held.codes A.codes-length, tt),
              ),
            ),
          );
        }

    -- ---- an accepted call
    module _ (C : Call (measure_row_call u z x b answer determined nb' cs' answer' determined') 0) where
      abbrev l : LentRecord
      l = u.held

      abbrev n : ℕ
      n = u.held.n

      abbrev R : ℕ → Pauli
      R = held_rows u.held

      fits : RowFits u z x b
      fits = row-lines.0 (sym C.number)

      F : RowReady u z x b
      F = row-ready u z x b (row-passes u z x b (sym C.number)).0

      abbrev P : Proper n R
      P = F.held.proper

      abbrev N : ℕ → Pauli
      N = row_measured n R z x (is_odd b)

      N-proper : Proper n N
      N-proper = row-proper n R P z x F.z-below F.x_below (is_odd b)

      abbrev after : LentRecord
      after = written_record n (reduced n N)

      is-after : after ≡ left l nb' cs'
      is-after = ap₂ (left l) (sym C.held.1.1.0) (sym C.held.1.1.1.0)

      abbrev o : Bool
      o = eqb (row_value n R z x) 2

      abbrev m : Bool
      m = eqb (row_value n R z x) 1

      -- where it is open, and where it is determined
      when-open : o ≡ true → (answer' ≡ digit (is_odd b)) × (determined' ≡ 0)
      when-open e = let h = open-numbers o m (is_odd b) e in (C.held.0 ∙ h.0, C.held.1.0 ∙ h.1)

      when-known : o ≡ false → (answer' ≡ digit m) × (determined' ≡ 1)
      when-known e = let h = known-numbers o m (is_odd b) e in (C.held.0 ∙ h.0, C.held.1.0 ∙ h.1)

      known : determined' ≡ 1 → o ≡ false
      known e = tested o (λ t. absurd (omega (arith, e, (when-open t).1))) (λ f. f)

      open-yet : determined' ≡ 0 → o ≡ true
      open-yet e = tested o (λ t. t) (λ f. absurd (omega (arith, e, (when-known f).1)))

      element : o ≡ false → InGroup n n R (signed_row m z x)
      element e = row-element n R P z x F.z-below F.x_below e

      plus-or-minus : (s : Bool) → InGroup n n R (signed_row s z x)
          → InGroup n n R (signed_row false z x) ⊎ InGroup n n R (signed_row true z x)
      plus-or-minus false a = inl a
      plus-or-minus true a = inr a

      -- an element's value is not 2
      not-open : (s : Bool) → InGroup n n R (signed_row s z x) → o ≡ false
      not-open false a = ap (λ k. eqb k 2)
          ((value-plus n R P (signed_row false z x) refl (row-of-words n z x false F.z-below F.x_below)).1 a)
      not-open true a = ap (λ k. eqb k 2)
          ((value-minus n R P (signed_row false z x) refl (row-of-words n z x false F.z-below F.x_below)).1 a)

      is_zero : z ≡ 0 → x ≡ 0 → row_value n R z x ≡ 0
      is_zero ez ex = ap₂ (row_value n R) ez ex ∙ identity-value n R P

      stands_after : RowStands l z x b after answer' determined'
      stands_after =
          record {
            still = answer-still n N N-proper F.held.positive F.held.upto;
            answers = answer-reduced n N N-proper F.held.positive F.held.upto;
            either = tested o (λ t. inl (when-open t).1) (λ f. inr (when-known f).1);
            outcome = tested o (λ t. either-digit (is_odd b) (when-open t).0) (λ f. either-digit m (when-known f).0);
            exactly = (
              (λ e. plus-or-minus m (element (known e))),
              (λ h. elim h [
                | inl a ↦ (when-known (not-open false a)).1
                | inr a ↦ (when-known (not-open true a)).1
              ]),
            );
            sign = λ e. subst (λ s. InGroup n n R (signed_row s z x))
                (sym (ap is_odd (when-known (known e)).0 ∙ is_odd-digit m)) (element (known e));
            kept = λ e. subst (λ S. SameGroup n n S (held_rows after))
                (row_kept n R P z x F.z-below F.x_below (known e) (is_odd b)) (reduced-held-same n N N-proper);
            bit = λ e. (when-open (open-yet e)).0 ∙ digit-odd b ∙ mod-eq_of_lt F.bit_below;
            joined = λ e p. (
              (λ h. (row-group n R P z x F.z-below F.x_below (open-yet e) (is_odd b) p).0
                  ((reduced-held-same n N N-proper).back p h)),
              (λ h. (reduced-held-same n N N-proper).there p
                  ((row-group n R P z x F.z-below F.x_below (open-yet e) (is_odd b) p).1 h)),
            );
            identity = λ ez ex. let w = is_zero ez ex in
                let k = when-known (ap (λ v. eqb v 2) w) in (k.1, k.0 ∙ ap (λ v. digit (eqb v 1)) w);
          }

      stands : RowStands l z x b (left l nb' cs') answer' determined'
      stands = subst (λ r. RowStands l z x b r answer' determined') is-after stands_after

      copied : UsedCopied u nb' cs'
      copied =
          record {
            stay = subst (UsedStay u) is-after (row_stays u z x b F fits.idle (is_odd b));
            passes = subst (λ r. first_fitting (used_lines (record { held = r; used = u.used }) false false false) ≡ 0)
                is-after
                (row-left-passes u z x b F fits.idle (is_odd b));
          }

      -- ---- the value afterwards
      value_of : row_value n (held_rows after) z x ≡ answer'
      value_of =
          value-carried n N (held_rows after) N-proper
          (accepted-record after false false (answer-still n N N-proper F.held.positive F.held.upto)).proper
          (λ r. r) (reduced-held-same n N N-proper).there (λ r. refl) (λ r s. refl) (signed_row false z x) refl
          (row-of-words n z x false F.z-below F.x_below) refl (row-of-words n z x false F.z-below F.x_below)
          ∙ value_after n R P z x F.z-below F.x_below (is_odd b) ∙ sym C.held.0

      values : (value value' k : ℕ) → Call (expectation_call (left_used u nb' cs' u.used) z x value value') k
          → (k ≡ 0) × (value' ≡ answer')
      values value value' k D =
          let fine = (expectations-accepted.expectation (left_used u nb' cs' u.used) z x value value' k D).1
          (((used-exactly (left_used u nb' cs' u.used) false false false).0 copied.passes).0, F.z-below, F.x_below)
          in (
            fine,
            (at_zero D fine).held.0 ∙ ap (λ r. row_value n (held_rows r) z x) (sym is-after) ∙ value_of,
          )

      -- ---- single letters
      letters : (pauli q answer₂ determined₂ : ℕ) (nb₂ cs₂ : List ℕ) (used₂ answer₃ determined₃ : ℕ)
          → z ≡ letter_word (z_bit (pauli_letter pauli)) q → x ≡ letter_word (x_bit (pauli_letter pauli)) q
          → Call (observe_call u pauli q b answer₂ determined₂ nb₂ cs₂ used₂ answer₃ determined₃) 0
          → SameAnswers answer' determined' nb' cs' answer₃ determined₃ nb₂ cs₂
      letters pauli q answer₂ determined₂ nb₂ cs₂ used₂ answer₃ determined₃ ez ex D =
          let is : (s : Bool) → signed_row s z x ≡ single (pauli_letter pauli) q s =
          λ s. ap₂ (signed_row s) ez ex ∙ letter-words (pauli_letter pauli) q s in
          let same_outcome = letter-outcome n R P z x F.z-below F.x_below (pauli_letter pauli) q is (is_odd b) in
          let same_rows = letter-rows n R P z x F.z-below F.x_below (pauli_letter pauli) q is (is_odd b) in
          record {
            outcome = D.held.1.0 ∙ ap outcome_number (sym same_outcome) ∙ sym C.held.0;
            flag = D.held.1.1.0 ∙ ap determined_number (sym same_outcome) ∙ sym C.held.1.0;
            neighbours = D.held.1.1.1.0 ∙ ap (λ S. neighbour_words n (reduced n S)) (sym same_rows)
                ∙ sym C.held.1.1.0;
            codes = D.held.1.1.1.1.0 ∙ ap (λ S. code_numbers n (reduced n S)) (sym same_rows)
                ∙ sym C.held.1.1.1.0;
          }

    module _ (r : ℕ) (C : Call (measure_row_call u z x b answer determined nb' cs' answer' determined') r) where
      sixteen : (r ≡ 16) ↔ ((first_fitting (row_arguments u z x b) ≡ 0) × (acts_on_used u z x ≡ true))
      sixteen = ((λ e. (row-sixteen u z x b).0 (sym C.number ∙ e)), λ h. C.number ∙ (row-sixteen u z x b).1 h)

      pub measure-row-says : MeasureRowSays u z x b answer determined nb' cs' answer' determined' r
      measure-row-says =
          record {
            answered = answered row-conforms C;
            accepted = Iff.trans (by_lines C) row-lines;
            numbers = in_words (measure_row_sentences u z x b) row-in-words C;
            group = λ e. stands (at_zero C e);
            copied = λ e. copied (at_zero C e);
            value = λ e. values (at_zero C e);
            letter = λ e. letters (at_zero C e);
            refused = sixteen;
          }
