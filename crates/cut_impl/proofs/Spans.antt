-- Sums modulo 2 of the columns before a place: what is one, and what a further column adds.
use mathlib.Core.Bool.{◌&&◌, Bool, false, true}
use mathlib.Core.Logic.{inl, inr, ◌⊎◌}
use mathlib.Core.Path.{ap, ap₂, refl, sym, ◌∙◌, ◌≡◌}
use Prim.Native.Nat.{◌<◌, suc, ℕ}
use native.Mathlib.Omega.{arith}
use Rattle.words.proofs.Finite.{⊕-and, ⊕-twice, ⊕-zero}
use Rattle.words.proofs.Places.{put_other, put_same}
use Rattle.words.proofs.Sums.{bit_monoid, fold-ext, fold-unit, parity-add}
use Rattle.words.specs.Bits.{Word, fold, parity, put, ◌⊕◌}

-- at the rows below m, f is the sum of the columns before q that a word names
abbrev pub Spanned : ℕ → (ℕ → Word) → ℕ → Word → Type 0
Spanned m M q f = (v : Word) × ((j : ℕ) → j < m → f j ≡ parity q (λ t. v t && M j t))

module _ (m : ℕ) (M : ℕ → Word) (q : ℕ) where
  pub span_ext : (f g : Word) → ((j : ℕ) → j < m → g j ≡ f j) → Spanned m M q f → Spanned m M q g
  span_ext f g e S = (S.0, λ j l. e j l ∙ S.1 j l)

  pub span-zero : (f : Word) → ((j : ℕ) → j < m → f j ≡ false) → Spanned m M q f
  span-zero f e = (λ t. false, λ j l. e j l ∙ sym (fold-unit false ◌⊕◌ bit_monoid q (λ t k. refl)))

  pub span-add : (f g : Word) → Spanned m M q f → Spanned m M q g → Spanned m M q (λ j. f j ⊕ g j)
  span-add f g S T = (
    λ t. S.0 t ⊕ T.0 t,
    λ j l. ap₂ ◌⊕◌ (S.1 j l) (T.1 j l)
        ∙ sym (parity-add q (λ t. S.0 t && M j t) (λ t. T.0 t && M j t))
        ∙ fold-ext false ◌⊕◌ q (λ t k. sym (⊕-and (S.0 t) (T.0 t) (M j t))),
  )

module _ (m : ℕ) (M : ℕ → Word) (q : ℕ) where
  -- column q itself may be added
  pub span-next : (f : Word) (b : Bool) → Spanned m M q f → Spanned m M (suc q) (λ j. f j ⊕ (b && M j q))
  unfolding fold
  span-next f b S = (
    put S.0 q b,
    λ j l. ap₂ ◌⊕◌
        (S.1 j l ∙ fold-ext false ◌⊕◌ q
        (λ t k. ap (λ c. c && M j t) (sym (put_other S.0 q b t (λ e. absurd (omega (arith, e, k)))))))
        (ap (λ c. c && M j q) (sym (put_same S.0 q b))),
  )

  pub span_more : (f : Word) → Spanned m M q f → Spanned m M (suc q) f
  span_more f S = span_ext m M (suc q) _ f (λ j l. sym (⊕-zero (f j))) (span-next f false S)

  -- a sum of columns up to q is one of columns before q, or becomes one when column q is added
  pub span-cases : (f : Word) → Spanned m M (suc q) f → Spanned m M q f ⊎ Spanned m M q (λ j. f j ⊕ M j q)
  unfolding fold
  span-cases f S = go (S.0 q) refl
    where
      split : (b : Bool) → S.0 q ≡ b → (j : ℕ) → j < m → f j ≡ parity q (λ t. S.0 t && M j t) ⊕ (b && M j q)
      split b e j l = S.1 j l ∙ ap (λ c. parity q (λ t. S.0 t && M j t) ⊕ (c && M j q)) e

      go : (b : Bool) → S.0 q ≡ b → Spanned m M q f ⊎ Spanned m M q (λ j. f j ⊕ M j q)
      go false e = inl (S.0, λ j l. split false e j l ∙ ⊕-zero _)
      go true e = inr (S.0, λ j l. ap (λ a. a ⊕ M j q) (split true e j l) ∙ ⊕-twice _ (M j q))
