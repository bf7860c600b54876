-- After a measurement of a row its value in the group is the outcome; the identity row is determined, with sign plus.
use mathlib.Core.Bool.{Bool, cond, false, true}
use mathlib.Core.Path.{ap, refl, subst, sym, ◌∙◌, ◌≡◌}
use Prim.Native.Nat.{◌<◌, ◌^◌, ℕ}
use lib.Dec.{eqb}
use lib.Pow.{pow_pos}
use Rattle.expectation.proofs.ReadWords.{row-of-words}
use Rattle.expectation.proofs.ValueLaws.{value-minus, value-plus}
use Rattle.expectation.specs.Values.{stabilizer_value}
use Rattle.operations.specs.Measurement.{Measured, joined, outcome_number}
use Rattle.operations.specs.declared.Outcome.TheVariants.{Chosen, Determined}
use Rattle.pauli.proofs.PauliLaws.{Pauli-path, identity-mul}
use Rattle.pauli.specs.Pauli.{Pauli, signed_row}
use Rattle.stabilizer.proofs.GroupLaws.{in-identity}
use Rattle.stabilizer.proofs.Products.{anticommute-identity}
use Rattle.stabilizer.specs.Groups.{InGroup, Proper}
use Rattle.words.proofs.BitLaws.{zero_bit}
use Rattle.words.specs.Bits.{digit}
use Rattle.parity.proofs.RowGroups.{row-element, row-group, row_kept, row-proper}
use Rattle.parity.specs.RowMeasurement.{row_measured, row_outcome, row_value}

module _ (n : ℕ) (rows : ℕ → Pauli) (L : Proper n rows) (z x : ℕ) (hz : z < 2 ^ n) (hx : x < 2 ^ n) where
  -- an element with a sign has that sign for its value
  sign-value : (R : ℕ → Pauli) → Proper n R → (s : Bool) → InGroup n n R (signed_row s z x)
      → stabilizer_value n R (signed_row false z x) ≡ digit s
  sign-value R P false a = (value-plus n R P (signed_row false z x) refl (row-of-words n z x false hz hx)).1 a
  sign-value R P true a = (value-minus n R P (signed_row false z x) refl (row-of-words n z x false hz hx)).1 a

  -- the row with the sign of the bit joined
  joined_in : eqb (row_value n rows z x) 2 ≡ true → (b : Bool) → InGroup n n (row_measured n rows z x b) (signed_row b z x)
  joined_in e b = (row-group n rows L z x hz hx e b (signed_row b z x)).1
      (subst (Measured n rows (signed_row b z x)) (identity-mul n (signed_row b z x))
      (joined (in-identity n n rows) (anticommute-identity n (signed_row b z x))))

  pub value_after : (b : Bool)
      → row_value n (row_measured n rows z x b) z x ≡ outcome_number (row_outcome n rows z x b)
  value_after b = go (eqb (row_value n rows z x) 2) refl
    where
      go : (d : Bool) → eqb (row_value n rows z x) 2 ≡ d
          → row_value n (row_measured n rows z x b) z x
          ≡ outcome_number (cond d (Chosen b) (Determined (eqb (row_value n rows z x) 1)))
      go true e = sign-value _ (row-proper n rows L z x hz hx b) b (joined_in e b)
      go false e = ap (λ R. row_value n R z x) (row_kept n rows L z x hz hx e b)
          ∙ sign-value rows L (eqb (row_value n rows z x) 1) (row-element n rows L z x hz hx e)

-- "The identity row is determined, 0": it is in every group
pub identity-value : (n : ℕ) (rows : ℕ → Pauli) → Proper n rows → row_value n rows 0 0 ≡ 0
identity-value n rows L = (value-plus n rows L (signed_row false 0 0) refl
    (row-of-words n 0 0 false (pow_pos n) (pow_pos n))).1
    (subst (InGroup n n rows) (sym (Pauli-path refl zero_bit zero_bit)) (in-identity n n rows))
