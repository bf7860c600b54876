-- The largest set bit of a word, by its leading zeros.
use mathlib.Core.Bool.{Bool, false, true}
use mathlib.Core.Logic.{inl, inr, ◌⊎◌}
use mathlib.Core.Path.{ap, refl, subst, ◌∙◌, ◌≡◌}
use Prim.Native.Nat.{◌+◌, ◌-◌, ◌<◌, ◌^◌, suc, ℕ, ◌≤◌}
use native.Mathlib.Nat.{lt_irrefl, lt_of_lt_of_le}
use native.Mathlib.Omega.{arith}
use lib.Count.{leading_top, count_leading_zeros}
use Rattle.words.proofs.BitLaws.{bit-above, lt-of-bits}
use Rattle.words.proofs.Sums.{lt-or-ge}
use Rattle.words.specs.Bits.{bit}

module _ (w : ℕ) (fits : w < 2 ^ 64) (nonzero : w ≡ 0 → ⊥) where
  top : (j : ℕ) × (count_leading_zeros 64 w + suc j ≡ 64) × (2 ^ j ≤ w) × (w < 2 ^ suc j)
  top = leading_top 64 w (positive (lt-or-ge 0 w)) fits
    where
      positive : (0 < w) ⊎ (w ≤ 0) → 0 < w
      positive (inl l) = l
      positive (inr l) = absurd (nonzero (omega arith))

  pub leading-small : count_leading_zeros 64 w ≤ 63
  leading-small = omega (arith, top.1)

  place : 63 - count_leading_zeros 64 w ≡ top.0
  place = omega (arith, top.1)

  set : bit w top.0 ≡ true
  set = go (bit w top.0) refl
    where
      go : (b : Bool) → bit w top.0 ≡ b → b ≡ true
      go true e = refl
      go false e = absurd (lt_irrefl w (lt_of_lt_of_le (lt-of-bits top.0 w above) top.2))
        where
          above : (q : ℕ) → top.0 ≤ q → bit w q ≡ false
          above q l = elim (lt-or-ge top.0 q) [
            | inl m ↦ bit-above (suc top.0) w top.3 q m
            | inr m ↦ ap (bit w) {x = q} {y = top.0} (omega arith) ∙ e
          ]

  pub top_bit : (bit w (63 - count_leading_zeros 64 w) ≡ true) × (w < 2 ^ (63 - count_leading_zeros 64 w + 1))
  top_bit = (
    ap (bit w) place ∙ set,
    subst (λ m. w < 2 ^ m) {x = suc top.0} {y = 63 - count_leading_zeros 64 w + 1} (omega (arith, place)) top.3,
  )
