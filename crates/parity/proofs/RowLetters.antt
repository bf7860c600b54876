-- On a single letter the row's answer and the group afterwards are those of the measurement of that letter.
use mathlib.Core.Bool.{Bool, cond, false, true, ◌||◌}
use mathlib.Core.Path.{ap, ap₂, refl, ◌∙◌, ◌≡◌}
use Prim.Native.Nat.{◌<◌, ◌^◌, ℕ}
use lib.Dec.{eqb}
use Rattle.expectation.proofs.ReadWords.{row-of-words}
use Rattle.expectation.proofs.ValueLaws.{one-sign}
use Rattle.expectation.specs.Values.{stabilizer_value}
use Rattle.operations.specs.Measurement.{first_against, is_determined, measured_outcome, measured_rows, projected, single}
use Rattle.operations.specs.declared.Outcome.TheVariants.{Chosen, Determined}
use Rattle.pauli.specs.Pauli.{Pauli, signed_row}
use Rattle.pauli.specs.declared.Letter.{Letter}
use Rattle.stabilizer.proofs.MembershipLaws.{member-exactly}
use Rattle.stabilizer.specs.Groups.{Proper}
use Rattle.stabilizer.specs.Membership.{member}
use Rattle.parity.specs.RowMeasurement.{row_measured, row_outcome}

-- by the two memberships, of which not both hold
by_members : (plus minus b : Bool) → (plus ≡ true → minus ≡ true → ⊥)
    → cond (eqb (cond plus 0 (cond minus 1 2)) 2) (Chosen b) (Determined (eqb (cond plus 0 (cond minus 1 2)) 1))
    ≡ cond (plus || minus) (Determined (cond (plus || minus) minus b)) (Chosen (cond (plus || minus) minus b))
by_members true true b h = absurd (h refl refl)
by_members true false b h = refl
by_members false true b h = refl
by_members false false b h = refl

rows-by : {A : Type 0} (plus minus : Bool) (after before : A)
    → cond (eqb (cond plus 0 (cond minus 1 2)) 2) after before ≡ cond (plus || minus) before after
rows-by true minus after before = refl
rows-by false true after before = refl
rows-by false false after before = refl

module _ (n : ℕ) (rows : ℕ → Pauli) (L : Proper n rows) (z x : ℕ) (hz : z < 2 ^ n) (hx : x < 2 ^ n) (l : Letter) (q : ℕ)
    (is : (s : Bool) → signed_row s z x ≡ single l q s) where
  abbrev m : Bool → Bool
  m s = member n rows (signed_row s z x)

  same : (s : Bool) → m s ≡ member n rows (single l q s)
  same s = ap (member n rows) (is s)

  not-both : m false ≡ true → m true ≡ true → ⊥
  not-both a b = one-sign n rows L (signed_row false z x) refl (row-of-words n z x false hz hx)
      ((member-exactly n rows L.within (signed_row false z x) (row-of-words n z x false hz hx)).0 a)
      ((member-exactly n rows L.within (signed_row true z x) (row-of-words n z x true hz hx)).0 b)

  pub letter-outcome : (b : Bool) → row_outcome n rows z x b ≡ measured_outcome n rows l q b
  unfolding stabilizer_value
  letter-outcome b = by_members (m false) (m true) b not-both
      ∙ ap₂ (λ p r. cond (p || r) (Determined (cond (p || r) r b)) (Chosen (cond (p || r) r b))) (same false)
      (same true)

  pub letter-rows : (b : Bool) → row_measured n rows z x b ≡ measured_rows n rows l q b
  unfolding stabilizer_value
  letter-rows b = rows-by (m false) (m true) _ rows
      ∙ ap₂ (λ p r. cond (p || r) rows (projected n rows (signed_row b z x) (first_against n rows (signed_row b z x))))
      (same false) (same true)
      ∙ ap (λ p. cond (is_determined n rows l q) rows (projected n rows p (first_against n rows p))) (is b)
