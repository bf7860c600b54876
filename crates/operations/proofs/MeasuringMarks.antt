-- An accepted measurement leaves its vertex alone, with the code of its Pauli and outcome, and marks it.
use mathlib.Core.Bool.{Bool, cond, false, true, ◌||◌}
use mathlib.Core.Logic.{◌≢◌, inl, inr}
use mathlib.Core.Path.{ap, ap₂, refl, subst, sym, ◌∙◌, ◌≡◌}
use Prim.Native.Nat.{◌*◌, ◌+◌, ◌-◌, ◌<◌, ◌^◌, suc, zero, ℕ}
use native.Mathlib.Nat.{pos_of_ne-zero}
use native.Mathlib.Omega.{arith}
use lib.Bits.{bit_or}
use lib.Dec.{eqb}
use lib.ListN.{get_or}
use borrow.Author.Tests.{leb-false}
use Rattle.operations.proofs.Contradicted.{agreed-outcome}
use Rattle.operations.proofs.Determined.{determined-element, determined-kept, measured-group}
use Rattle.operations.proofs.MeasuredRecords.{acts, pauli-acts}
use Rattle.operations.specs.Measurement.Measured.{joined}
use Rattle.operations.specs.Measurement.{
  Measured,
  measured_outcome,
  contradicts,
  is_determined,
  measured_rows,
  outcome,
  outcome_number,
  pauli_letter,
  single,
}
use Rattle.operations.specs.declared.Outcome.TheVariants.{Chosen, Determined}
use Rattle.operations.specs.Steps.{Operation, leaves, made, measured_answer, measurement_of}
use Rattle.pauli.proofs.PauliLaws.{identity-mul}
use Rattle.pauli.specs.Pauli.{Pauli}
use Rattle.pauli.specs.declared.Letter.{Letter}
use Rattle.record.specs.Lent.{LentRecord, held_rows}
use Rattle.stabilizer.proofs.GroupLaws.{in-identity}
use Rattle.stabilizer.proofs.Products.{anticommute-identity}
use Rattle.stabilizer.specs.Groups.{InGroup, Proper}
use Rattle.operations.specs.internal.UsedLaws.{UsedPasses}
use Rattle.words.proofs.BitLaws.{bit-above, bit-ext∞, bit-or, bit-single, bit-word_of, word_of-lt}
use Rattle.words.proofs.Places.{other_place}
use Rattle.words.proofs.Sums.{lt-or-ge}
use Rattle.words.specs.Bits.{bit, digit, is_odd}
use Rattle.operations.specs.Used.{UsedRecord, used_after, used_code}
use Rattle.operations.proofs.AcceptedSteps.{
  MeasureArguments,
  accepted-step,
  after-made,
  measure-arguments,
  measured-list,
}
use Rattle.operations.proofs.AloneVertices.{alone-code, alone-graph, alone_code}
use Rattle.operations.proofs.UsedStaying.{code-written, word-alone}

-- the measured Pauli, with the outcome's sign, is in the group afterwards
measured-in : (n : ℕ) (rows : ℕ → Pauli) → Proper n rows → (l : Letter) (q : ℕ) → q < n → (b : Bool)
    → contradicts n rows l q b ≡ false → InGroup n n (measured_rows n rows l q b) (single l q b)
measured-in n rows P l q hq b c = go (is_determined n rows l q) refl
  where
    go : (d : Bool) → is_determined n rows l q ≡ d → InGroup n n (measured_rows n rows l q b) (single l q b)
    go true e = subst (λ R. InGroup n n R (single l q b)) (sym (determined-kept n rows P l q hq e b))
        (subst (λ s. InGroup n n rows (single l q s)) (agreed-outcome n rows l q b c)
        (determined-element n rows P l q hq e b))
    go false e = (measured-group n rows P l q hq e b (single l q b)).1
        (subst (Measured n rows (single l q b)) (identity-mul n (single l q b))
        (joined (in-identity n n rows) (anticommute-identity n (single l q b))))

-- the number of the outcome is the bit
outcome-bit : (n : ℕ) (rows : ℕ → Pauli) (l : Letter) (q b : ℕ) → b < 2 → contradicts n rows l q (is_odd b) ≡ false
    → outcome_number (measured_outcome n rows l q (is_odd b)) ≡ b
outcome-bit n rows l q b hb c = go (is_determined n rows l q) ∙ ap digit (agreed-outcome n rows l q (is_odd b) c) ∙ small
    b hb
  where
    go : (d : Bool) → outcome_number (cond d (Determined (outcome n rows l q (is_odd b)))
        (Chosen (outcome n rows l q (is_odd b)))) ≡ digit (outcome n rows l q (is_odd b))
    go true = refl
    go false = refl

    small : (b : ℕ) → b < 2 → digit (is_odd b) ≡ b
    small zero h = refl
    small (suc zero) h = refl
    small (suc (suc b)) h = absurd (omega (arith, h))

-- "1 X, 2 Y, 3 Z": 4 × (Pauli − 1) + 2 × bit is one of the six codes
pub pauli-code : (pauli b : ℕ) → pauli ≢ 0 → pauli < 4 → b < 2
    → (alone_code (pauli_letter pauli) (is_odd b) ≡ 4 * (pauli - 1) + 2 * b)
    × (used_code (4 * (pauli - 1) + 2 * b) ≡ true)
pauli-code zero b p h k = absurd (p refl)
pauli-code (suc zero) zero p h k = (refl, refl)
pauli-code (suc zero) (suc zero) p h k = (refl, refl)
pauli-code (suc zero) (suc (suc b)) p h k = absurd (omega (arith, k))
pauli-code (suc (suc zero)) zero p h k = (refl, refl)
pauli-code (suc (suc zero)) (suc zero) p h k = (refl, refl)
pauli-code (suc (suc zero)) (suc (suc b)) p h k = absurd (omega (arith, k))
pauli-code (suc (suc (suc zero))) zero p h k = (refl, refl)
pauli-code (suc (suc (suc zero))) (suc zero) p h k = (refl, refl)
pauli-code (suc (suc (suc zero))) (suc (suc b)) p h k = absurd (omega (arith, k))
pauli-code (suc (suc (suc (suc i)))) b p h k = absurd (omega (arith, h))

module _ (u : UsedRecord) (pauli q b : ℕ) (P : UsedPasses u (measurement_of pauli q b)) where
  abbrev l : LentRecord
  l = u.held

  abbrev o : Operation
  o = measurement_of pauli q b

  abbrev rows : ℕ → Pauli
  rows = measured_rows l.n (held_rows l) (pauli_letter pauli) q (is_odd b)

  pub arguments : MeasureArguments l pauli q b
  arguments = measure-arguments l pauli q b P.as_before

  acting : acts (pauli_letter pauli) ≡ true
  acting = pauli-acts pauli (pos_of_ne-zero arguments.not_none)

  inside : InGroup l.n l.n rows (single (pauli_letter pauli) q (is_odd b))
  inside = measured-in l.n (held_rows l) (accepted-step l o P.as_before).proper (pauli_letter pauli) q
      arguments.below (is_odd b) arguments.agrees

  pub measured-word : get_or (leaves l o).neighbours q 0 ≡ 0
  measured-word = ap (λ t. get_or t.neighbours q 0) (after-made l o P.as_before)
      ∙ word-alone l.n (made l o) q arguments.below
      (alone-graph l.n rows (measured-list l pauli q b P.as_before) (pauli_letter pauli) acting q
      arguments.below
      (is_odd b) inside)

  pub measured-code : get_or (leaves l o).codes q 0 ≡ 4 * (pauli - 1) + 2 * b
  measured-code = ap (λ t. get_or t.codes q 0) (after-made l o P.as_before)
      ∙ code-written l.n (made l o) q arguments.below
      ∙ alone-code l.n rows (measured-list l pauli q b P.as_before) (pauli_letter pauli) acting q
      arguments.below
      (is_odd b) inside
      ∙ (pauli-code pauli b arguments.not_none arguments.pauli-below arguments.bit_below).0

  pub measured-bit : outcome_number (measured_answer l pauli q b) ≡ b
  measured-bit = outcome-bit l.n (held_rows l) (pauli_letter pauli) q b arguments.bit_below arguments.agrees

  -- the bits of the used word afterwards
  pub measured-marks : (t : ℕ) → bit (used_after u o) t ≡ (bit u.used t || eqb t q)
  measured-marks t = elim (lt-or-ge t l.n) [
    | inl h ↦ bit-word_of l.n _ t h
    | inr h ↦ bit-above l.n (used_after u o) (word_of-lt l.n _) t h
        ∙ sym (ap₂ ◌||◌ (bit-above l.n u.used (leb-false (2 ^ l.n) u.used P.no_stray) t h)
        (other_place {i = t} {j = q} (λ e. absurd (omega (arith, e, h, arguments.below)))))
  ]

  -- as the code writes it
  pub marked-word : used_after u (measurement_of pauli q b) ≡ bit_or u.used (2 ^ q)
  marked-word = bit-ext∞ (used_after u o) (bit_or u.used (2 ^ q))
      (λ t. measured-marks t ∙ sym (bit-or u.used (2 ^ q) t ∙ ap (λ c. bit u.used t || c) (bit-single q t)))
