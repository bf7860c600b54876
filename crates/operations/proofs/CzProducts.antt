-- Two products of the same rows: what a flip of edges does to a generator, and what CZ does, differ by elements of the
-- group.
use mathlib.Core.Bool.{◌&&◌, Bool, false, true}
use mathlib.Core.Path.{ap, ap₂, refl, sym, ◌∙◌, ◌≡◌}
use Prim.Native.Nat.{ℕ}
use Rattle.pauli.proofs.PauliLaws.{identity-mul, mul_assoc, mul-identity, mul-scaled, scaled-mul}
use Rattle.pauli.proofs.PhaseLaws.{+ᵖ-assoc, phases}
use Rattle.pauli.specs.Pauli.{◌+ᵖ◌, Pauli, Phase, minus, mul, scaled}
use Rattle.stabilizer.specs.Groups.{chosen}
use Rattle.words.specs.Bits.{◌⊕◌}

pub scaled-scaled : (s t : Phase) (p : Pauli) → scaled s (scaled t p) ≡ scaled (s +ᵖ t) p
scaled-scaled s t p = λ i. record { phase = sym (+ᵖ-assoc s t p.phase) i; z = p.z; x = p.x }

chosen-scaled : (v s : Bool) (p : Pauli) → chosen v (scaled (minus s) p) ≡ scaled (minus (v && s)) (chosen v p)
chosen-scaled false s p = refl
chosen-scaled true s p = refl

signs-agree : (A B sa sb : Bool)
    → minus ((A && B) ⊕ ((sa && B) ⊕ (sb && A))) +ᵖ (minus (A && sb) +ᵖ minus (B && sa)) ≡ minus (A && B)
signs-agree = phases 4
    (λ A B sa sb. minus ((A && B) ⊕ ((sa && B) ⊕ (sb && A))) +ᵖ (minus (A && sb) +ᵖ minus (B && sa)))
    (λ A B sa sb. minus (A && B)) tt

module _ (n : ℕ) where
  chosen-mul-both : (v : Bool) (g z : Pauli) → chosen v (mul n g z) ≡ mul n (chosen v g) (chosen v z)
  chosen-mul-both false g z = sym (identity-mul n _)
  chosen-mul-both true g z = refl

  chosen-commute : (u v : Bool) (g z : Pauli) → mul n g z ≡ mul n z g
      → mul n (chosen u g) (chosen v z) ≡ mul n (chosen v z) (chosen u g)
  chosen-commute false v g z e = identity-mul n (chosen v z) ∙ sym (mul-identity n (chosen v z))
  chosen-commute true false g z e = mul-identity n g ∙ sym (identity-mul n g)
  chosen-commute true true g z e = e

  reordered : (p zb za gb ga : Pauli) → mul n gb zb ≡ mul n zb gb → mul n ga za ≡ mul n za ga
      → mul n gb za ≡ mul n za gb
      → mul n (mul n p (mul n gb zb)) (mul n ga za) ≡ mul n (mul n (mul n (mul n p zb) za) gb) ga
  reordered p zb za gb ga k1 k2 k3 =
      ap₂ (λ u v. mul n (mul n p u) v) k1 k2
      ∙ sym (mul_assoc n (mul n p (mul n zb gb)) za ga)
      ∙ ap (λ u. mul n u ga)
      (ap (λ u. mul n u za) (sym (mul_assoc n p zb gb))
      ∙ mul_assoc n (mul n p zb) gb za ∙ ap (mul n (mul n p zb)) k3 ∙ sym (mul_assoc n (mul n p zb) za gb))

  module _ (p za zb ga gb : Pauli) (k1 : mul n gb zb ≡ mul n zb gb) (k2 : mul n ga za ≡ mul n za ga)
      (k3 : mul n gb za ≡ mul n za gb) where
    pub same-products : (A B sa sb : Bool)
        → scaled (minus ((A && B) ⊕ ((sa && B) ⊕ (sb && A))))
        (mul n (mul n p (chosen A (scaled (minus sb) (mul n gb zb)))) (chosen B (scaled (minus sa) (mul n ga za))))
        ≡ mul n (mul n (scaled (minus (A && B)) (mul n (mul n p (chosen A zb)) (chosen B za))) (chosen A gb))
        (chosen B ga)
    same-products A B sa sb =
        ap (scaled t)
        (ap₂ (λ u v. mul n (mul n p u) v) (chosen-scaled A sb (mul n gb zb)) (chosen-scaled B sa (mul n ga za))
        ∙ ap (λ u. mul n u (scaled β (chosen B (mul n ga za)))) (mul-scaled n α p (chosen A (mul n gb zb)))
        ∙ scaled-mul n α (mul n p (chosen A (mul n gb zb))) (scaled β (chosen B (mul n ga za)))
        ∙ ap (scaled α) (mul-scaled n β (mul n p (chosen A (mul n gb zb))) (chosen B (mul n ga za)))
        ∙ scaled-scaled α β _)
        ∙ scaled-scaled t (α +ᵖ β) _
        ∙ ap₂ scaled (signs-agree A B sa sb)
        (ap₂ (λ u v. mul n (mul n p u) v) (chosen-mul-both A gb zb) (chosen-mul-both B ga za)
        ∙ reordered p (chosen A zb) (chosen B za) (chosen A gb) (chosen B ga) (chosen-commute A A gb zb k1)
        (chosen-commute B B ga za k2) (chosen-commute A B gb za k3))
        ∙ sym (scaled-mul n m (mul n (mul n (mul n p (chosen A zb)) (chosen B za)) (chosen A gb)) (chosen B ga))
        ∙ ap (λ u. mul n u (chosen B ga))
        (sym (scaled-mul n m (mul n (mul n p (chosen A zb)) (chosen B za)) (chosen A gb)))
      where
        t : Phase
        t = minus ((A && B) ⊕ ((sa && B) ⊕ (sb && A)))

        α : Phase
        α = minus (A && sb)

        β : Phase
        β = minus (B && sa)

        m : Phase
        m = minus (A && B)
