-- Trailing zeros: the smallest set bit of a word.
use mathlib.Core.Bool.{false}
use mathlib.Core.Logic.{inl, inr, ◌⊎◌}
use mathlib.Core.Path.{ap, refl, sym, ◌∙◌, ◌≡◌}
use Prim.Native.Nat.{◌%◌, ◌/◌, ◌<◌, ◌^◌, suc, zero, ℕ}
use native.Mathlib.Nat.{mod-lt, not-suc-le-zero, zero-lt-suc}
use native.Mathlib.Omega.{arith}
use lib.Count.{count_trailing_zeros, under}
use lib.Dec.{eqb, lit<}
use lib.Pow.{pow_pos}
use Rattle.words.proofs.BitLaws.{bit-ext, bit-suc, bit-zero, zero_bit}
use Rattle.words.proofs.SearchLaws.{first-none, first-unique}
use Rattle.words.specs.Bits.{bit}
use Rattle.words.specs.Search.{IsFirst, first}

-- the first of k bits that is set, or k where none is

pub trailing-is : (k w : ℕ) →
    IsFirst k (bit w) (count_trailing_zeros k w) ⊎ (((q : ℕ) → q < k → bit w q ≡ false) × (count_trailing_zeros k w ≡ k))
unfolding count_trailing_zeros
trailing-is zero w = inr (λ q l. absurd (not-suc-le-zero l), refl)
trailing-is (suc k) w = go (w % 2) (mod-lt w (lit< tt)) refl (trailing-is k (w / 2))
  where
    go : (d : ℕ) → d < 2 → w % 2 ≡ d
        → IsFirst k (bit (w / 2)) (count_trailing_zeros k (w / 2))
        ⊎ (((q : ℕ) → q < k → bit (w / 2) q ≡ false) × (count_trailing_zeros k (w / 2) ≡ k))
        → IsFirst (suc k) (bit w) (under d (count_trailing_zeros k (w / 2)))
        ⊎ (((q : ℕ) → q < suc k → bit w q ≡ false) × (under d (count_trailing_zeros k (w / 2)) ≡ suc k))
    go zero h e (inl F) =
        inl (record {
          below = omega (arith, F.below);
          passes = bit-suc w _ ∙ F.passes;
          least =
              λ j l. low j l;
        })
      where
        low : (j : ℕ) → j < suc (count_trailing_zeros k (w / 2)) → bit w j ≡ false
        low zero l = bit-zero w ∙ ap (λ d. eqb d 1) e
        low (suc j) l = bit-suc w j ∙ F.least j (omega arith)
    go zero h e (inr N) = inr (all, ap suc N.1)
      where
        all : (q : ℕ) → q < suc k → bit w q ≡ false
        all zero l = bit-zero w ∙ ap (λ d. eqb d 1) e
        all (suc q) l = bit-suc w q ∙ N.0 q (omega arith)
    go (suc zero) h e r =
        inl
        (record {
          below = zero-lt-suc k;
          passes = bit-zero w ∙ ap (λ d. eqb d 1) e;
          least = λ j l. absurd (not-suc-le-zero l);
        })
    go (suc (suc d)) h e r = absurd (omega arith)

-- the smallest set bit is the first that passes the test `bit w`
pub trailing-first : (k w : ℕ) → count_trailing_zeros k w ≡ first k (bit w)
trailing-first k w = go (trailing-is k w)
  where
    go : IsFirst k (bit w) (count_trailing_zeros k w)
        ⊎ (((q : ℕ) → q < k → bit w q ≡ false) × (count_trailing_zeros k w ≡ k))
        → count_trailing_zeros k w ≡ first k (bit w)
    go (inl F) = sym (first-unique k (bit w) _ F)
    go (inr (none, e)) = e ∙ sym (first-none k (bit w) none)

-- a word that is not 0 has a smallest set bit
pub trailing-set : (k w : ℕ) → w < 2 ^ k → (w ≡ 0 → ⊥) → IsFirst k (bit w) (count_trailing_zeros k w)
trailing-set k w h nonzero = go (trailing-is k w)
  where
    go : IsFirst k (bit w) (count_trailing_zeros k w)
        ⊎ (((q : ℕ) → q < k → bit w q ≡ false) × (count_trailing_zeros k w ≡ k))
        → IsFirst k (bit w) (count_trailing_zeros k w)
    go (inl F) = F
    go (inr (none, _)) = absurd (nonzero (bit-ext k w 0 h (pow_pos k) (λ q l. none q l ∙ sym (zero_bit q))))
