-- The number of bits of a word, by its leading zeros.
use mathlib.Core.Path.{ap, ◌∙◌, ◌≡◌}
use Prim.Native.Nat.{◌+◌, ◌-◌, ◌<◌, ◌^◌, ℕ}
use native.Mathlib.Decide.{ℕ_discrete}
use native.Mathlib.Omega.{arith}
use lib.Count.{leading_of_zero, count_leading_zeros}
use Rattle.words.proofs.TopBit.{leading-small, top_bit}
use Rattle.words.proofs.BitLaws.{bit-above, zero_bit}
use Rattle.words.specs.Bits.{bit}
use Rattle.comparison.specs.internal.Equations.{Size}

module _ (w : ℕ) (fits : w < 2 ^ 64) where
  pub size_is : Size w (64 - count_leading_zeros 64 w)
  size_is = go (ℕ_discrete w 0)
    where
      go : Dec (w ≡ 0) → Size w (64 - count_leading_zeros 64 w)
      go (yes e) =
          record {
            above = λ j l. ap (λ u. bit u j) e ∙ zero_bit j;
            last = λ l. absurd (none l (ap (count_leading_zeros 64) e ∙ leading_of_zero 64));
          }
        where
          none : 0 < 64 - count_leading_zeros 64 w → count_leading_zeros 64 w ≡ 64 → ⊥
          none l e = omega (arith, l, e)
      go (no o) =
          record {
            above = λ j l. bit-above (63 - count_leading_zeros 64 w + 1) w (top_bit w fits o).1 j
                (omega (arith, l, leading-small w fits o));
            last = λ l. ap (bit w) {x = 64 - count_leading_zeros 64 w - 1} {y = 63 - count_leading_zeros 64 w} (omega arith)
                ∙ (top_bit w fits o).0;
          }
