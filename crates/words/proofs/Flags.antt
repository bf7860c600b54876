-- Tests as bits: what they say of their parts.
use mathlib.Core.Bool.{◌&&◌, Bool, beq, cond, false, false≢true, not, true, true≢false, ◌||◌}
use mathlib.Core.Logic.{inl, inr, ◌⊎◌}
use mathlib.Core.Path.{ap, refl, subst, sym, ◌∙◌, ◌≡◌}
use lib.Dec.{T}
use Rattle.words.proofs.Finite.{same_bit→≡}
use Rattle.words.specs.Bits.{same_bit}

pub both_true : (a b : Bool) → (a && b) ≡ true → (a ≡ true) × (b ≡ true)
both_true true b e = (refl, e)
both_true false b e = absurd (false≢true e)

pub either : (a b : Bool) → (a || b) ≡ true → (a ≡ true) ⊎ (b ≡ true)
either false b e = inr e
either true b e = inl refl

pub neither : (a b : Bool) → (a || b) ≡ false → (a ≡ false) × (b ≡ false)
neither false b e = (refl, e)
neither true b e = absurd (true≢false e)

pub never_true : (b : Bool) → (b ≡ true → ⊥) → b ≡ false
never_true true h = absurd (h refl)
never_true false h = refl

-- a test of the form 'a implies b'
pub implied : (a b : Bool) → (not a || b) ≡ true → a ≡ true → b ≡ true
implied false b e h = absurd (false≢true h)
implied true b e h = e

pub implies : (a b : Bool) → (a ≡ true → b ≡ true) → (not a || b) ≡ true
implies false b h = refl
implies true b h = h refl

-- a statement of a case distinction, by its two cases
module _ {A : Type 0} (P : A → Type 0) where
  pub by-test : (test : Bool) (x y : A) → (test ≡ true → P x) → (test ≡ false → P y) → P (cond test x y)
  by-test true x y f g = f refl
  by-test false x y f g = g refl

-- tests that hold together are equal
pub same-by-both : (a b : Bool) → (a ≡ true → b ≡ true) → (b ≡ true → a ≡ true) → a ≡ b
same-by-both false false f g = refl
same-by-both false true f g = g refl
same-by-both true b f g = sym (f refl)

-- ---- tests of equality
pub same_bit-refl : (a : Bool) → same_bit a a ≡ true
same_bit-refl false = refl
same_bit-refl true = refl

pub same_bit-true : {a b : Bool} → a ≡ b → same_bit a b ≡ true
same_bit-true {a} {b} e = ap (same_bit a) (sym e) ∙ same_bit-refl a

pub true-same_bit : (a b : Bool) → same_bit a b ≡ true → a ≡ b
true-same_bit a b e = same_bit→≡ a b (subst T (sym e) tt)

pub beq-true : (a b : Bool) → beq a b ≡ true → a ≡ b
beq-true false false e = refl
beq-true false true e = absurd (false≢true e)
beq-true true false e = absurd (false≢true e)
beq-true true true e = refl

pub beq-refl : (a : Bool) → beq a a ≡ true
beq-refl false = refl
beq-refl true = refl
