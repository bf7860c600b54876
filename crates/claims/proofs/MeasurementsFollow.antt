-- Demand 2 of measurements, from the call's contract and the laws of operations.
use mathlib.Core.Bool.{Bool, cond, false, true}
use mathlib.Core.List.{List}
use mathlib.Core.Logic.{◌↔◌, ◌⊎◌, inl, inr}
use mathlib.Core.Path.{◌∙◌, ◌≡◌, ap, refl, subst, sym}
use Prim.Native.Nat.{◌<◌, ℕ}
use native.Mathlib.Nat.{mod-eq_of_lt}
use lib.Dec.{eqb, leb}
use borrow.Author.Tests.{leb-false}
use Rattle.buffers.specs.Refusals.{first_fitting}
use Rattle.operations.proofs.Contradicted.{agreed-outcome}
use Rattle.operations.proofs.Determined.{
  determined-element,
  determined-exactly,
  determined-kept,
  measured-group,
  measured-proper,
}
use Rattle.operations.specs.Measurement.{
  contradicts,
  determined_number,
  is_determined,
  measured_rows,
  outcome,
  outcome_number,
  pauli_letter,
  single,
}
use Rattle.operations.specs.Steps.{argument_lines, measurement_of}
use Rattle.operations.specs.declared.Outcome.TheVariants.{Chosen, Determined}
use Rattle.pauli.specs.Pauli.{Pauli}
use Rattle.pauli.specs.declared.Letter.{Letter}
use Rattle.record.proofs.WrittenRecords.{reduced-held-same, written_record}
use Rattle.record.specs.Accepted.{AcceptedRecord}
use Rattle.record.specs.Lent.{LentRecord, held_rows}
use Rattle.record.specs.Reduced.{reduced}
use Rattle.stabilizer.specs.Groups.{InGroup, Proper, SameGroup}
use Rattle.calls.proofs.InPlaceLines.{held-accepted, measure-ready, six-passes}
use Rattle.calls.proofs.MeasureLines.{measure-passes}
use Rattle.buffers.specs.Calls.{Call}
use Rattle.calls.specs.InPlace.{measure_call}
use Rattle.words.proofs.BitLaws.{digit-odd, is_odd-digit, odd-digit}
use Rattle.words.proofs.Flags.{neither}
use Rattle.words.specs.Bits.{digit, is_odd}
use Rattle.claims.proofs.GatesFollow.{answer-reduced, answer-still, holds-new}
use Rattle.claims.specs.OperationsDemand.{MeasurementStands, MeasurementsFollow}

-- ---- measurements
-- the two numbers, by whether it is determined
both-numbers : (d s : Bool) → (outcome_number (cond d (Determined s) (Chosen s)) ≡ digit s)
    × (determined_number (cond d (Determined s) (Chosen s)) ≡ digit d)
both-numbers true s = (refl, refl)
both-numbers false s = (refl, refl)

of-digit : (b : Bool) {k : ℕ} → digit b ≡ k → b ≡ eqb k 1
of-digit b e = sym (odd-digit b) ∙ ap (λ k. eqb k 1) e

module _ (l : LentRecord) (pauli q b answer determined : ℕ) (nb' cs' : List ℕ) (answer' determined' : ℕ)
    (C : Call (measure_call l pauli q b answer determined nb' cs' answer' determined') 0) where
  abbrev n : ℕ
  n = l.n

  abbrev held : ℕ → Pauli
  held = held_rows l

  abbrev L : Letter
  L = pauli_letter pauli

  lines : (first_fitting (argument_lines l pauli q b) ≡ 0) × (contradicts n held L q (is_odd b) ≡ false)
  lines = measure-passes l pauli q b (sym C.number)

  A : AcceptedRecord l
  A = held-accepted l _ _ lines.0

  at-qubit : q < n
  at-qubit = subst (λ m. q < m) A.neighbours-length (measure-ready l pauli q b lines.0).0.1

  bit-small : b < 2
  bit-small = leb-false 2 b (neither (leb 2 b) _ (six-passes l _ _ lines.0)).0

  abbrev R : ℕ → Pauli
  R = measured_rows n held L q (is_odd b)

  P : Proper n R
  P = measured-proper n held A.proper L q at-qubit (is_odd b)

  known : determined' ≡ digit (is_determined n held L q)
  known = C.held.1.0 ∙ (both-numbers (is_determined n held L q) (outcome n held L q (is_odd b))).1

  read : answer' ≡ digit (outcome n held L q (is_odd b))
  read = C.held.0 ∙ (both-numbers (is_determined n held L q) (outcome n held L q (is_odd b))).0

  -- the outcome is the bit in either case
  bit-read : answer' ≡ b
  bit-read = read ∙ ap digit (agreed-outcome n held L q (is_odd b) lines.1) ∙ digit-odd b ∙ mod-eq_of_lt bit-small

  found : determined' ≡ 1 → is_determined n held L q ≡ true
  found e = of-digit _ (sym known ∙ e)

  open-yet : determined' ≡ 0 → is_determined n held L q ≡ false
  open-yet e = of-digit _ (sym known ∙ e)

  exactly : (is_determined n held L q ≡ true)
      ↔ (InGroup n n held (single L q false) ⊎ InGroup n n held (single L q true))
  exactly = determined-exactly n held A.proper L q at-qubit

  abbrev after : LentRecord
  after = written_record n (reduced n R)

  stands : MeasurementStands l pauli q b after answer' determined'
  stands =
      record {
        still = answer-still n R P A.positive A.upto;
        answers = answer-reduced n R P A.positive A.upto;
        either = either-digit (is_determined n held L q) known;
        outcome = either-digit (outcome n held L q (is_odd b)) read;
        exactly = ((λ e. exactly.0 (found e)), λ h. known ∙ ap digit (exactly.1 h));
        sign = λ e. subst (λ s. InGroup n n held (single L q s))
            (sym (ap is_odd read ∙ is_odd-digit (outcome n held L q (is_odd b))))
            (determined-element n held A.proper L q at-qubit (found e) (is_odd b));
        agrees = λ e. sym bit-read;
        kept = λ e. subst (λ S. SameGroup n n S (held_rows after))
            (determined-kept n held A.proper L q at-qubit (found e) (is_odd b))
            (reduced-held-same n R P);
        bit = λ e. bit-read;
        joined = λ e p. (
          (λ h. (measured-group n held A.proper L q at-qubit (open-yet e) (is_odd b) p).0
              ((reduced-held-same n R P).back p h)),
          (λ h. (reduced-held-same n R P).there p
              ((measured-group n held A.proper L q at-qubit (open-yet e) (is_odd b) p).1 h)),
        );
      }
    where
      either-digit : {v : ℕ} (d : Bool) → v ≡ digit d → (v ≡ 0) ⊎ (v ≡ 1)
      either-digit true e = inr e
      either-digit false e = inl e

pub measurements-follow : MeasurementsFollow
measurements-follow l pauli q b answer determined nb' cs' answer' determined' C =
    subst (λ r. MeasurementStands l pauli q b r answer' determined')
    (sym (holds-new l (measurement_of pauli q b) nb' cs' (record { number = C.number; held = C.held.1.1 })))
    (stands l pauli q b answer determined nb' cs' answer' determined' C)
