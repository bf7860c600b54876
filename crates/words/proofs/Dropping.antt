-- The smallest set bit of a word w, taken away: w and w - 1 have the bits above it in common, and no other.
use mathlib.Core.Bool.{◌&&◌, Bool, false, true}
use mathlib.Core.Path.{ap, ap₂, refl, sym, ◌∙◌, ◌≡◌}
use Prim.Native.Nat.{◌%◌, ◌-◌, ◌/◌, ◌<◌, ◌^◌, suc, zero, ℕ}
use native.Mathlib.Nat.{zero-lt-suc}
use native.Mathlib.Omega.{arith}
use lib.Bits.{bit_and, bit_xor}
use lib.Count.{count_trailing_zeros}
use lib.Dec.{eqb, eqb-suc-suc, eqb-suc-zero, eqb-zero-suc}
use Rattle.words.proofs.BitLaws.{bit-and, bit-ext∞, bit-flip, bit-suc, bit-zero, digit-odd}
use Rattle.words.proofs.Finite.{⊕-zero}
use Rattle.words.proofs.Places.{same_place}
use Rattle.words.proofs.Trailing.{trailing-set}
use Rattle.words.specs.Bits.{bit, digit, ◌⊕◌}

-- ---- halves and lowest digits of w - 1
module _ (w : ℕ) where
  low : {b : Bool} → bit w 0 ≡ b → w % 2 ≡ digit b
  low e = sym (digit-odd w) ∙ ap digit (sym (bit-zero w) ∙ e)

  half-odd : bit w 0 ≡ true → (w - 1) / 2 ≡ w / 2
  half-odd e = omega (arith, low e)

  half-even : bit w 0 ≡ false → (w - 1) / 2 ≡ w / 2 - 1
  half-even e = omega (arith, low e)

  even-below : bit w 0 ≡ true → bit (w - 1) 0 ≡ false
  even-below e =
      let z : (w - 1) % 2 ≡ 0 = omega (arith, low e) in
      bit-zero (w - 1) ∙ ap (λ v. eqb v 1) z

-- ---- bit by bit, t the smallest set one
dropped : (t w q : ℕ) → bit w t ≡ true → ((s : ℕ) → s < t → bit w s ≡ false)
    → (bit w q && bit (w - 1) q) ≡ bit w q ⊕ eqb q t
dropped zero w zero e l = ap₂ ◌&&◌ e (even-below w e) ∙ sym (ap₂ ◌⊕◌ e (same_place 0))
dropped zero w (suc q) e l =
    ap (λ b. bit w (suc q) && b) (bit-suc (w - 1) q ∙ ap (λ v. bit v q) (half-odd w e) ∙ sym (bit-suc w q))
    ∙ twice (bit w (suc q)) ∙ sym (ap (λ b. bit w (suc q) ⊕ b) (eqb-suc-zero q) ∙ ⊕-zero (bit w (suc q)))
  where
    twice : (b : Bool) → (b && b) ≡ b
    twice false = refl
    twice true = refl
dropped (suc t) w zero e l =
    ap (λ b. b && bit (w - 1) 0) (l 0 (zero-lt-suc t)) ∙ sym (ap₂ ◌⊕◌ (l 0 (zero-lt-suc t)) (eqb-zero-suc t))
dropped (suc t) w (suc q) e l =
    ap₂ ◌&&◌ (bit-suc w q) (bit-suc (w - 1) q ∙ ap (λ v. bit v q) (half-even w (l 0 (zero-lt-suc t))))
    ∙ dropped t (w / 2) q (sym (bit-suc w t) ∙ e) (λ s k. sym (bit-suc w s) ∙ l (suc s) (omega (arith, k)))
    ∙ ap₂ ◌⊕◌ (sym (bit-suc w q)) (sym (eqb-suc-suc q t))

pub drop-smallest : (w : ℕ) → w < 2 ^ 64 → (w ≡ 0 → ⊥) → bit_and w (w - 1) ≡ bit_xor w (2 ^ count_trailing_zeros 64 w)
drop-smallest w h nonzero =
    let F = trailing-set 64 w h nonzero in
    bit-ext∞ (bit_and w (w - 1)) (bit_xor w (2 ^ count_trailing_zeros 64 w)) (λ q.
    bit-and w (w - 1) q ∙ dropped (count_trailing_zeros 64 w) w q F.passes F.least
    ∙ sym (bit-flip w (count_trailing_zeros 64 w) q))

-- the same with a name for the place
pub dropped-at : (w i r : ℕ) → r ≡ bit_xor w (2 ^ count_trailing_zeros 64 w) → i ≡ count_trailing_zeros 64 w → r ≡ bit_xor w (2 ^ i)
dropped-at w i r h e = h ∙ ap (λ k. bit_xor w (2 ^ k)) (sym e)
