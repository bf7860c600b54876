-- The group after a measurement of a row: the same where it is determined; otherwise the elements that commute with the
-- row, joined by the row with the sign of the bit. Afterwards the row has the outcome for its value.
use mathlib.Core.Bool.{Bool, cond, false, true}
use mathlib.Core.Logic.{inl, inr, ◌↔◌}
use mathlib.Core.Path.{ap, refl, subst, sym, ◌∙◌, ◌≡◌}
use Prim.Native.Nat.{◌<◌, ◌^◌, suc, zero, ℕ, ◌≤◌}
use native.Mathlib.Omega.{arith}
use lib.Dec.{eqb}
use borrow.Author.Tests.{eqb-false, eqb-true}
use Rattle.expectation.proofs.ReadWords.{row-of-words}
use Rattle.expectation.proofs.ValueLaws.{value-minus, value-neither, value-plus, value-upto}
use Rattle.operations.proofs.Projection.{projected-group, projected-proper}
use Rattle.operations.specs.Measurement.{Measured, first_against, projected}
use Rattle.pauli.proofs.PhaseLaws.{minus-real}
use Rattle.pauli.specs.Pauli.{Pauli, anticommute, signed_row}
use Rattle.record.proofs.Maximality.{maximal-list}
use Rattle.stabilizer.specs.Groups.{InGroup, Proper, Within}
use Rattle.words.proofs.SearchLaws.{first-is}
use Rattle.words.specs.Search.{IsFirst}
use Rattle.parity.specs.RowMeasurement.{row_measured, row_value}

-- the sign of a row has no part in commutation
pub row-anticommute : (n : ℕ) (p : Pauli) (z x : ℕ) (s t : Bool)
    → anticommute n p (signed_row s z x) ≡ anticommute n p (signed_row t z x)
unfolding anticommute
row-anticommute n p z x s t = refl

module _ (n : ℕ) (rows : ℕ → Pauli) (L : Proper n rows) (z x : ℕ) (hz : z < 2 ^ n) (hx : x < 2 ^ n) where
  abbrev v : ℕ
  v = row_value n rows z x

  within : (s : Bool) → Within n (signed_row s z x)
  within s = row-of-words n z x s hz hx

  -- ---- determined
  pub row_kept : eqb (row_value n rows z x) 2 ≡ false → (b : Bool) → row_measured n rows z x b ≡ rows
  row_kept e b = ap (λ d. cond d (projected n rows (signed_row b z x) (first_against n rows (signed_row b z x))) rows) e

  -- the row with the sign that is answered is in the group
  pub row-element : eqb (row_value n rows z x) 2 ≡ false → InGroup n n rows (signed_row (eqb (row_value n rows z x) 1) z x)
  row-element e = go v (value-upto n rows (signed_row false z x)) refl
    where
      go : (w : ℕ) → w ≤ 2 → v ≡ w → InGroup n n rows (signed_row (eqb v 1) z x)
      go zero l h = subst (λ k. InGroup n n rows (signed_row (eqb k 1) z x)) (sym h)
          ((value-plus n rows L (signed_row false z x) refl (within false)).0 h)
      go (suc zero) l h = subst (λ k. InGroup n n rows (signed_row (eqb k 1) z x)) (sym h)
          ((value-minus n rows L (signed_row false z x) refl (within false)).0 h)
      go (suc (suc k)) l h = absurd (eqb-false v 2 e (omega (arith, l, h)))

  -- ---- not determined
  module _ (open-yet : eqb (row_value n rows z x) 2 ≡ true) (b : Bool) where
    abbrev P : Pauli
    P = signed_row b z x

    abbrev g : ℕ
    g = first_against n rows P

    -- some generator does not commute; the first one
    pub row-against : IsFirst n (λ i. anticommute n (rows i) (signed_row b z x)) (first_against n rows (signed_row b z x))
    row-against =
        let h = (value-neither n rows L (signed_row false z x) refl (within false)).0 (eqb-true v 2 open-yet) in
        elim (first-is n (λ i. anticommute n (rows i) P)) [
          | inl F ↦ F
          | inr none ↦ absurd (elim (maximal-list n rows L (signed_row false z x) refl (within false)
              (λ j k. row-anticommute n (rows j) z x false b ∙ none j k)) [ inl a ↦ h.0 a | inr a ↦ h.1 a ])
        ]

    pub row-projected : row_measured n rows z x b ≡ projected n rows (signed_row b z x)
        (first_against n rows (signed_row b z x))
    row-projected = ap (λ d. cond d (projected n rows P g) rows) open-yet

    pub row-group : (p : Pauli) → InGroup n n (row_measured n rows z x b) p ↔ Measured n rows (signed_row b z x) p
    row-group p = subst (λ R. InGroup n n R p ↔ Measured n rows P p) (sym row-projected)
        (projected-group n rows L P (minus-real b) (within b) g row-against.below row-against.passes p)

    open-proper : Proper n (row_measured n rows z x b)
    open-proper = subst (Proper n) (sym row-projected)
        (projected-proper n rows L P (minus-real b) (within b) g row-against.below row-against.passes)

  -- in either case the rows afterwards are a list
  pub row-proper : (b : Bool) → Proper n (row_measured n rows z x b)
  row-proper b = go (eqb v 2) refl
    where
      go : (d : Bool) → eqb v 2 ≡ d → Proper n (row_measured n rows z x b)
      go true e = open-proper e b
      go false e = subst (Proper n) (sym (row_kept e b)) L
