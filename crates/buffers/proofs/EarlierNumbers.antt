-- The earlier of two refusal numbers, and the earliest of many.
use mathlib.Core.Bool.{cond}
use mathlib.Core.Logic.{inl, inr, ◌⊎◌}
use mathlib.Core.Path.{ap, ap₂, sym, ◌∙◌, ◌≡◌}
use Prim.Native.Nat.{◌<◌, ℕ, ◌≤◌}
use native.Mathlib.Decide.{ℕ_discrete}
use lib.Dec.{eqb, ltb}
use borrow.Author.Tests.{eq-eqb, le-ltb, lt-ltb, ne_eqb}
use Rattle.words.proofs.Sums.{lt-or-ge}
use Rattle.buffers.specs.internal.Earlier.{earlier_of}

-- no number only where both have none
pub earlier-none : (a b : ℕ) → earlier_of a b ≡ 0 → (a ≡ 0) × (b ≡ 0)
earlier-none a b = go (ℕ_discrete a 0) (ℕ_discrete b 0) (lt-or-ge a b)
  where
    go : Dec (a ≡ 0) → Dec (b ≡ 0) → (a < b) ⊎ (b ≤ a) → earlier_of a b ≡ 0 → (a ≡ 0) × (b ≡ 0)
    go (yes h) d l e = (
      h,
      sym (ap (λ v. cond v b (cond (eqb b 0) a (cond (ltb a b) a b))) (eq-eqb a 0 h))
          ∙ e,
    )
    go (no h) (yes k) l e =
        absurd (h (sym (ap₂ (λ u v. cond u b (cond v a (cond (ltb a b) a b))) (ne_eqb a 0 h) (eq-eqb b 0 k))
        ∙ e))
    go (no h) (no k) (inl l) e =
        absurd (h (sym (ap₂ (λ u v. cond u b (cond v a (cond (ltb a b) a b))) (ne_eqb a 0 h) (ne_eqb b 0 k)
        ∙ ap (λ v. cond v a b) (lt-ltb a b l)) ∙ e))
    go (no h) (no k) (inr l) e =
        absurd (k (sym (ap₂ (λ u v. cond u b (cond v a (cond (ltb a b) a b))) (ne_eqb a 0 h) (ne_eqb b 0 k)
        ∙ ap (λ v. cond v a b) (le-ltb a b l)) ∙ e))
