-- A word reduced by a basis: each addition clears its smallest set bit and no lower one.
use mathlib.Core.Bool.{false, true≢false}
use mathlib.Core.List.{List}
use mathlib.Core.Logic.{inl, inr, ◌⊎◌}
use mathlib.Core.Path.{ap, ap₂, subst, sym, ◌∙◌, ◌≡◌}
use Prim.Native.Nat.{◌-◌, ◌<◌, ◌^◌, ℕ, ◌≤◌}
use native.Mathlib.Nat.{eq-or-lt_of_le}
use native.Mathlib.Omega.{arith}
use lib.Bits.{bit_xor, xor_lt}
use lib.Count.{count_trailing_zeros}
use lib.ListN.{get_or}
use Rattle.words.proofs.BitLaws.{bit-xor}
use Rattle.words.proofs.Sums.{lt-or-ge}
use Rattle.words.proofs.Trailing.{trailing-is, trailing-set}
use Rattle.words.specs.Bits.{bit, ◌⊕◌}
use Rattle.words.specs.Search.{IsFirst}
use Rattle.cut_impl.specs.internal.Basis.{SumOf, Echelon, Remainder, none, one}

-- the loop's invariant
pub record Reducing (basis : List ℕ) (w rest : ℕ) : Type 0 where
  pub added : SumOf basis w rest
  pub below : rest < 2 ^ 64

pub reducing-start : (basis : List ℕ) (w : ℕ) → w < 2 ^ 64 → Reducing basis w w
reducing-start basis w h = record { added = none; below = h }

-- nothing is left
pub all-reduced : (basis : List ℕ) (w rest : ℕ) → Reducing basis w rest → rest ≡ 0 → Remainder basis w rest
all-reduced basis w rest R e = record { added = R.added; last = λ h. absurd (h e) }

-- at the smallest set bit i
module _ (basis : List ℕ) (E : Echelon basis) (w rest : ℕ) (R : Reducing basis w rest) (nonzero : rest ≡ 0 → ⊥)
    (i : ℕ) (at : i ≡ count_trailing_zeros 64 rest) where
  smallest-set : IsFirst 64 (bit rest) i
  smallest-set = subst (IsFirst 64 (bit rest)) (sym at) (trailing-set 64 rest R.below nonzero)

  pub smallest-below : i < 64
  smallest-below = smallest-set.below

  pub reduced-no-more : get_or basis i 0 ≡ 0 → Remainder basis w rest
  reduced-no-more e = record { added = R.added; last = λ h. ap (λ k. get_or basis k 0) (sym at) ∙ e }

  module _ (held : get_or basis i 0 ≡ 0 → ⊥) where
    pub reduced-once : Reducing basis w (bit_xor rest (get_or basis i 0))
    reduced-once = record { added = one i R.added; below = xor_lt 64 rest _ R.below (E.below i) }

    cleared : (j : ℕ) → j ≤ i → bit (bit_xor rest (get_or basis i 0)) j ≡ false
    cleared j l = bit-xor rest (get_or basis i 0) j ∙ go (eq-or-lt_of_le l)
      where
        go : (j ≡ i) ⊎ (j < i) → bit rest j ⊕ bit (get_or basis i 0) j ≡ false
        go (inl e) = ap (λ k. bit rest k ⊕ bit (get_or basis i 0) k) e
            ∙ ap₂ ◌⊕◌ smallest-set.passes (E.smallest i held).passes
        go (inr k) = ap₂ ◌⊕◌ (smallest-set.least j k) ((E.smallest i held).least j k)

    pub smallest-rises : 64 - count_trailing_zeros 64 (bit_xor rest (get_or basis i 0)) < 64 - count_trailing_zeros 64 rest
    smallest-rises = go (trailing-is 64 (bit_xor rest (get_or basis i 0)))
      where
        go : IsFirst 64 (bit (bit_xor rest (get_or basis i 0))) (count_trailing_zeros 64 (bit_xor rest (get_or basis i 0)))
            ⊎ (((q : ℕ) → q < 64 → bit (bit_xor rest (get_or basis i 0)) q ≡ false)
            × (count_trailing_zeros 64 (bit_xor rest (get_or basis i 0)) ≡ 64))
            → 64 - count_trailing_zeros 64 (bit_xor rest (get_or basis i 0)) < 64 - count_trailing_zeros 64 rest
        go (inl F) = elim (lt-or-ge i (count_trailing_zeros 64 (bit_xor rest (get_or basis i 0)))) [
          | inl k ↦ omega (arith, at, k, smallest-below)
          | inr k ↦ absurd (true≢false (sym F.passes ∙ cleared _ k))
        ]
        go (inr (clear, e)) = omega (arith, at, e, smallest-below)
