-- Powers of i times a Gaussian integer: turns add, and a number that is its own negative is 0; none other turns to 0.
use mathlib.Core.Path.{◌∙◌, ◌≡◌, ap, refl, subst, sym}
use Prim.Native.Nat.{suc, zero}
use lib.IntN.{ℤ, negsuc, neg_ℤ, pos}
use Rattle.pauli.specs.Pauli.{◌+ᵖ◌, Phase, i¹, i², i³, i⁰, times_i}
use Rattle.amplitude.specs.Vectors.{Gaussian, none, one, turn_by}

neg-neg : (k : ℤ) → neg_ℤ (neg_ℤ k) ≡ k
neg-neg (pos zero) = refl
neg-neg (pos (suc k)) = refl
neg-neg (negsuc k) = refl

gaussian : {z u : Gaussian} → z.re ≡ u.re → z.im ≡ u.im → z ≡ u
gaussian a b = λ i. record { re = a i; im = b i }

-- one quarter turn more
turn-once : (b : Phase) (z : Gaussian) → turn_by (times_i b) z ≡ turn_by i¹ (turn_by b z)
turn-once i⁰ z = refl
turn-once i¹ z = refl
turn-once i² z = gaussian (sym (neg-neg z.im)) refl
turn-once i³ z = gaussian (sym (neg-neg z.re)) refl

pub turn-add : (a b : Phase) (z : Gaussian) → turn_by (a +ᵖ b) z ≡ turn_by a (turn_by b z)
turn-add i⁰ b z = refl
turn-add i¹ b z = turn-once b z
turn-add i² b z = turn-once (times_i b) z ∙ ap (turn_by i¹) (turn-once b z)
turn-add i³ b z =
    turn-once (times_i (times_i b)) z ∙ ap (turn_by i¹) (turn-once (times_i b) z ∙ ap (turn_by i¹) (turn-once b z))
    ∙ sym (turn-once i² (turn_by b z))

pub turn-none : (a : Phase) → turn_by a none ≡ none
turn-none i⁰ = refl
turn-none i¹ = refl
turn-none i² = refl
turn-none i³ = refl

-- a number that is its own negative is 0
own-negative : (k : ℤ) → k ≡ neg_ℤ k → k ≡ pos 0
own-negative (pos zero) e = refl
own-negative (pos (suc k)) e = absurd (apart e)
  where
    apart : pos (suc k) ≡ negsuc k → ⊥
    apart e = subst (λ z. elim z as (λ z. Type 0) [ pos k ↦ Unit | negsuc k ↦ ⊥ ]) e tt
own-negative (negsuc k) e = absurd (apart e)
  where
    apart : negsuc k ≡ pos (suc k) → ⊥
    apart e = subst (λ z. elim z as (λ z. Type 0) [ pos k ↦ ⊥ | negsuc k ↦ Unit ]) e tt

-- also among Gaussian integers
pub negated-none : (z : Gaussian) → turn_by i² z ≡ z → z ≡ none
negated-none z e = gaussian (own-negative z.re (sym (ap (λ u. u.re) e)))
    (own-negative z.im (sym (ap (λ u. u.im) e)))

-- four turns bring a number back, so that only 0 turns to 0
pub none-turned : (t : Phase) (z : Gaussian) → turn_by t z ≡ none → z ≡ none
none-turned i⁰ z e = e
none-turned i¹ z e = gaussian (ap (λ u. u.im) e) (sym (neg-neg z.im) ∙ ap (λ u. neg_ℤ u.re) e)
none-turned i² z e = gaussian (sym (neg-neg z.re) ∙ ap (λ u. neg_ℤ u.re) e)
    (sym (neg-neg z.im) ∙ ap (λ u. neg_ℤ u.im) e)
none-turned i³ z e = gaussian (sym (neg-neg z.re) ∙ ap (λ u. neg_ℤ u.im) e) (ap (λ u. u.re) e)

one-some : one ≡ none → ⊥
one-some e = own (ap (λ u. u.re) e)
  where
    own : pos 1 ≡ pos 0 → ⊥
    own e = subst (λ z. elim z as (λ z. Type 0) [ pos zero ↦ ⊥ | pos (suc k) ↦ Unit | negsuc k ↦ ⊥ ]) e tt

pub turned-one-some : (t : Phase) → turn_by t one ≡ none → ⊥
turned-one-some t e = one-some (none-turned t one e)
