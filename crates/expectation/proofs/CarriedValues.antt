-- Values under a map of rows that sends one group into another, and under a change of sign.
use mathlib.Core.Bool.{false, true}
use mathlib.Core.Path.{refl, subst, ◌∙◌, ◌≡◌}
use Prim.Native.Nat.{◌<◌, ◌^◌, suc, zero, ℕ, ◌≤◌}
use native.Mathlib.Omega.{arith}
use Rattle.pauli.proofs.PauliLaws.{anticommute-letters}
use Rattle.pauli.specs.Pauli.{Pauli, anticommute, imaginary, i², signed_row}
use Rattle.stabilizer.specs.Groups.{InGroup, Proper, Within}
use Rattle.expectation.proofs.ReadWords.{row-of-words}
use Rattle.expectation.proofs.ValueLaws.{value-anticommutes, value-minus, value-plus, value-upto}
use Rattle.expectation.specs.Values.{exchanged, negated, stabilizer_value}

-- a map that keeps signs and commutation, and sends the first group into the second
module _ (n : ℕ) (R S : ℕ → Pauli) (P : Proper n R) (Q : Proper n S) (f : Pauli → Pauli)
    (into : (p : Pauli) → InGroup n n R p → InGroup n n S (f p)) (signs : (p : Pauli) → f (negated p) ≡ negated (f p))
    (keeps : (r p : Pauli) → anticommute n (f r) (f p) ≡ anticommute n r p) (p : Pauli)
    (signed : imaginary p.phase ≡ false) (W : Within n p) (signed' : imaginary (f p).phase ≡ false)
    (W' : Within n (f p)) where
  go : (v : ℕ) → v ≤ 2 → stabilizer_value n R p ≡ v → stabilizer_value n S (f p) ≡ v
  go zero l e = (value-plus n S Q (f p) signed' W').1 (into p ((value-plus n R P p signed W).0 e))
  go (suc zero) l e = (value-minus n S Q (f p) signed' W').1
      (subst (InGroup n n S) (signs p) (into (negated p) ((value-minus n R P p signed W).0 e)))
  go (suc (suc zero)) l e = let s = (value-anticommutes n R P p signed W).0 e in
      (value-anticommutes n S Q (f p) signed' W').1 (f s.0, (into s.0 s.1.0, keeps s.0 p ∙ s.1.1))
  go (suc (suc (suc k))) l e = absurd (omega arith)

  pub value-carried : stabilizer_value n S (f p) ≡ stabilizer_value n R p
  value-carried = go (stabilizer_value n R p) (value-upto n R p) refl

-- the row with a minus sign
module _ (n : ℕ) (R : ℕ → Pauli) (P : Proper n R) (z x : ℕ) (hz : z < 2 ^ n) (hx : x < 2 ^ n) where
  flipped : (v : ℕ) → v ≤ 2 → stabilizer_value n R (signed_row false z x) ≡ v
      → stabilizer_value n R (signed_row true z x) ≡ exchanged v
  flipped zero l e = (value-minus n R P (signed_row true z x) refl (row-of-words n z x true hz hx)).1
      ((value-plus n R P (signed_row false z x) refl (row-of-words n z x false hz hx)).0 e)
  flipped (suc zero) l e = (value-plus n R P (signed_row true z x) refl (row-of-words n z x true hz hx)).1
      ((value-minus n R P (signed_row false z x) refl (row-of-words n z x false hz hx)).0 e)
  flipped (suc (suc zero)) l e =
      let s = (value-anticommutes n R P (signed_row false z x) refl (row-of-words n z x false hz hx)).0 e in
      (value-anticommutes n R P (signed_row true z x) refl (row-of-words n z x true hz hx)).1
      (s.0, (s.1.0, anticommute-letters n s.0 (signed_row false z x) s.0.phase i² ∙ s.1.1))
  flipped (suc (suc (suc k))) l e = absurd (omega arith)

  pub value-flipped : stabilizer_value n R (signed_row true z x) ≡ exchanged (stabilizer_value n R (signed_row false z x))
  value-flipped = flipped (stabilizer_value n R (signed_row false z x)) (value-upto n R (signed_row false z x)) refl
