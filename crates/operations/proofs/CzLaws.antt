-- The formula of CZ keeps products: laws of two places, tested, and summed over the places.
use mathlib.Core.Bool.{◌&&◌, Bool, and-false, cond, false, true, true≢false}
use mathlib.Core.Logic.{◌≢◌}
use mathlib.Core.Path.{ap, ap₂, refl, sym, ◌∙◌, ◌≡◌}
use Prim.Native.Nat.{◌<◌, ℕ}
use native.Mathlib.Decide.{ℕ_discrete}
use lib.Dec.{eqb}
use Rattle.pauli.proofs.PauliLaws.{Pauli-path}
use Rattle.pauli.proofs.PhaseLaws.{
  +ᵖ-assoc,
  +ᵖ-left,
  +ᵖ-zero,
  imaginary-+ᵖ,
  minus-real,
  phases,
  sum_phase-add,
  sum_phase-one,
}
use Rattle.pauli.specs.Pauli.{
  ◌+ᵖ◌,
  Pauli,
  Phase,
  identity,
  imaginary,
  i⁰,
  letter,
  letter_at,
  letter_phase,
  minus,
  mul,
  scaled,
  sum_phase,
}
use Rattle.words.proofs.Finite.{bits, ⊕-none, ⊕-zero}
use Rattle.words.proofs.Places.{other_place}
use Rattle.words.proofs.Sums.{fold-ext}
use Rattle.words.specs.Bits.{◌⊕◌}
use Rattle.operations.specs.Cz.{cz, cz_sign}

-- the power of i by which a product of two letters changes where their z bits flip by u and u'
abbrev gain : Bool → Bool → Bool → Bool → Bool → Bool → Phase
gain z x z' x' u u' =
    letter_phase (letter (z ⊕ u) x) (letter (z' ⊕ u') x')
    +ᵖ (let t = letter_phase (letter z x) (letter z' x') in t +ᵖ (t +ᵖ t))

-- at any place; A, it is a; B, it is b; never both
abbrev flipped : Bool → Bool → Bool → Bool → Bool → Bool
flipped A B z u v = z ⊕ ((A && u) ⊕ (B && v))

place : (A B : Bool) → (A && B) ≡ false → (z x z' x' u u' v v' : Bool)
    → letter_phase (letter (flipped A B z u v) x) (letter (flipped A B z' u' v') x')
    ≡ letter_phase (letter z x) (letter z' x')
    +ᵖ (cond A (gain z x z' x' u u') i⁰ +ᵖ cond B (gain z x z' x' v v') i⁰)
place true true e = absurd (true≢false e)
place true false e = phases 8
    (λ z x z' x' u u' v v'. letter_phase (letter (z ⊕ (u ⊕ false)) x) (letter (z' ⊕ (u' ⊕ false)) x'))
    (λ z x z' x' u u' v v'. letter_phase (letter z x) (letter z' x') +ᵖ (gain z x z' x' u u' +ᵖ i⁰)) tt
place false true e = phases 8
    (λ z x z' x' u u' v v'. letter_phase (letter (z ⊕ (false ⊕ v)) x) (letter (z' ⊕ (false ⊕ v')) x'))
    (λ z x z' x' u u' v v'. letter_phase (letter z x) (letter z' x') +ᵖ (i⁰ +ᵖ gain z x z' x' v v')) tt
place false false e = phases 8
    (λ z x z' x' u u' v v'. letter_phase (letter (z ⊕ false) x) (letter (z' ⊕ false) x'))
    (λ z x z' x' u u' v v'. letter_phase (letter z x) (letter z' x') +ᵖ i⁰) tt

-- the two places together give the signs
abbrev sign_of_product : Bool → Bool → Bool → Bool → Bool → Bool → Bool → Bool → Phase
sign_of_product za xa zb xb za' xa' zb' xb' = minus (cz_sign (za ⊕ za') (xa ⊕ xa') (zb ⊕ zb') (xb ⊕ xb'))

abbrev signs_and_gains : Bool → Bool → Bool → Bool → Bool → Bool → Bool → Bool → Phase
signs_and_gains za xa zb xb za' xa' zb' xb' =
    (minus (cz_sign za xa zb xb) +ᵖ minus (cz_sign za' xa' zb' xb'))
    +ᵖ (gain za xa za' xa' xb xb' +ᵖ gain zb xb zb' xb' xa xa')

signs : (za xa zb xb za' xa' zb' xb' : Bool)
    → sign_of_product za xa zb xb za' xa' zb' xb' ≡ signs_and_gains za xa zb xb za' xa' zb' xb'
signs = phases 8 sign_of_product signs_and_gains tt

z-place : (A B z z' u u' v v' : Bool)
    → flipped A B (z ⊕ z') (u ⊕ u') (v ⊕ v') ≡ flipped A B z u v ⊕ flipped A B z' u' v'
z-place = bits 8 (λ A B z z' u u' v v'. flipped A B (z ⊕ z') (u ⊕ u') (v ⊕ v'))
    (λ A B z z' u u' v v'. flipped A B z u v ⊕ flipped A B z' u' v') tt

module _ (n a b : ℕ) (ha : a < n) (hb : b < n) (ab : a ≢ b) where
  gain_at : Pauli → Pauli → ℕ → ℕ → Phase
  gain_at p r c q = gain (p.z q) (p.x q) (r.z q) (r.x q) (p.x c) (r.x c)

  -- a place is not both a and b
  not-both : (q : ℕ) → (eqb q a && eqb q b) ≡ false
  not-both q = elim (ℕ_discrete q a) [
    | yes e ↦ ap (λ c. eqb q a && c) (other_place (λ d. ab (sym e ∙ d))) ∙ and-false (eqb q a)
    | no d ↦ ap (λ c. c && eqb q b) (other_place d)
  ]

  letter-phases : (p r : Pauli)
      → sum_phase n (λ q. letter_phase (letter_at (cz a b p) q) (letter_at (cz a b r) q))
      ≡ sum_phase n (λ q. letter_phase (letter_at p q) (letter_at r q)) +ᵖ (gain_at p r b a +ᵖ gain_at p r a b)
  unfolding cz gain_at
  letter-phases p r =
      fold-ext i⁰ ◌+ᵖ◌ n (λ q l. place (eqb q a) (eqb q b) (not-both q) (p.z q) (p.x q) (r.z q) (r.x q)
      (p.x b) (r.x b) (p.x a) (r.x a))
      ∙ sum_phase-add n (λ q. letter_phase (letter_at p q) (letter_at r q))
      (λ q. cond (eqb q a) (gain_at p r b q) i⁰ +ᵖ cond (eqb q b) (gain_at p r a q) i⁰)
      ∙ ap (λ t. sum_phase n (λ q. letter_phase (letter_at p q) (letter_at r q)) +ᵖ t)
      (sum_phase-add n (λ q. cond (eqb q a) (gain_at p r b q) i⁰) (λ q. cond (eqb q b) (gain_at p r a q) i⁰)
      ∙ ap₂ ◌+ᵖ◌ (sum_phase-one n a ha (gain_at p r b)) (sum_phase-one n b hb (gain_at p r a)))

  regroup : (p r s t u v g : Phase) → s ≡ (u +ᵖ v) +ᵖ g
      → ((p +ᵖ r) +ᵖ t) +ᵖ s ≡ ((p +ᵖ u) +ᵖ (r +ᵖ v)) +ᵖ (t +ᵖ g)
  regroup p r s t u v g e = ap (λ k. ((p +ᵖ r) +ᵖ t) +ᵖ k) e ∙ simp (+ᵖ-assoc, +ᵖ-left)

  pub cz-products : (p r : Pauli) → cz a b (mul n p r) ≡ mul n (cz a b p) (cz a b r)
  unfolding cz mul gain_at
  cz-products p r =
      Pauli-path
      (regroup p.phase r.phase _ _ _ _ _ (signs (p.z a) (p.x a) (p.z b) (p.x b) (r.z a) (r.x a)
      (r.z b) (r.x b))
      ∙ ap (λ t. ((cz a b p).phase +ᵖ (cz a b r).phase) +ᵖ t) (sym (letter-phases p r)))
      (λ q. z-place (eqb q a) (eqb q b) (p.z q) (r.z q) (p.x b) (r.x b) (p.x a) (r.x a)) (λ q. refl)

-- ---- without conditions
pub cz-powers : (a b : ℕ) (t : Phase) (p : Pauli) → cz a b (scaled t p) ≡ scaled t (cz a b p)
unfolding cz
cz-powers a b t p = Pauli-path (+ᵖ-assoc t p.phase _) (λ q. refl) (λ q. refl)

-- a row without x bits at a and b stays
pub cz-fixed : (a b : ℕ) (p : Pauli) → p.x a ≡ false → p.x b ≡ false → cz a b p ≡ p
unfolding cz
cz-fixed a b p ea eb =
    Pauli-path
    (ap₂ (λ u v. p.phase +ᵖ minus (cz_sign (p.z a) u (p.z b) v)) ea eb ∙ +ᵖ-zero p.phase)
    (λ q. ap₂ (λ u v. p.z q ⊕ ((eqb q a && v) ⊕ (eqb q b && u))) ea eb
    ∙ ap (λ t. p.z q ⊕ t) (⊕-none (eqb q a) (eqb q b)) ∙ ⊕-zero (p.z q))
    (λ q. refl)

pub cz-identity : (a b : ℕ) → cz a b identity ≡ identity
cz-identity a b = cz-fixed a b identity refl refl

pub cz-signed : (a b : ℕ) (p : Pauli) → imaginary (cz a b p).phase ≡ imaginary p.phase
unfolding cz
cz-signed a b p = imaginary-+ᵖ p.phase _
    ∙ ap (λ c. imaginary p.phase ⊕ c) (minus-real (cz_sign (p.z a) (p.x a) (p.z b) (p.x b)))
    ∙ ⊕-zero (imaginary p.phase)
