-- Counts of ones: the parity of a xor; `dot` is symmetric and linear in each argument.

-- the number of ones modulo 2 is the sum of the bits
use mathlib.Core.Bool.{◌&&◌, false}
use mathlib.Core.Path.{ap, ap₂, refl, sym, ◌∙◌, ◌≡◌}
use Prim.Native.Nat.{◌%◌, ◌+◌, ◌/◌, ◌<◌, ◌^◌, suc, zero, ℕ}
use native.Mathlib.Nat.{le-add_left, le-add_right, lt_of_lt_of_le}
use lib.Arith.{lt-one}
use lib.Bits.{and_comm, and_lt, bit_and, bit_xor, xor_lt}
use lib.Count.{ones, ones_step}
use lib.Dec.{eqb}
use lib.Pow.{pow_mono}
use Rattle.words.proofs.BitLaws.{
  bit-and,
  bit-ext∞,
  bit-suc,
  bit-xor,
  bit-zero,
  half_lt,
  low_digit,
  lt-pow,
  odd-add,
}
use Rattle.words.proofs.Finite.{⊕-and, ⊕-comm}
use Rattle.words.proofs.Sums.{bit_monoid, fold-ext, fold-mul, fold-shift}
use Rattle.words.specs.Bits.{bit, fold, is_odd, parity, ◌⊕◌}
use Rattle.words.specs.internal.Bits.{dot}

pub parity-ones : (n w : ℕ) → w < 2 ^ n → is_odd (ones w) ≡ parity n (bit w)
unfolding fold ones
parity-ones zero w h = ap (λ k. is_odd (ones k)) (lt-one h)
parity-ones (suc n) w h =
    ap is_odd (ones_step w) ∙ odd-add (w % 2) (ones (w / 2))
    ∙ ap₂ ◌⊕◌ (low_digit (λ u. is_odd u ≡ eqb u 1) refl refl w ∙ sym (bit-zero w))
    (parity-ones n (w / 2) (half_lt n h) ∙ fold-ext false ◌⊕◌ n (λ q l. sym (bit-suc w q)))
    ∙ sym (fold-shift false ◌⊕◌ bit_monoid n (bit w))

-- a bound for both words
both-lt : (a b : ℕ) → (n : ℕ) × (a < 2 ^ n) × (b < 2 ^ n)
both-lt a b = (
  a + b,
  lt_of_lt_of_le (lt-pow a) (pow_mono (le-add_right a b)),
  lt_of_lt_of_le (lt-pow b) (pow_mono (le-add_left b a)),
)

-- the parity of a xor
pub parity-xor : (a b : ℕ) → is_odd (ones (bit_xor a b)) ≡ is_odd (ones a) ⊕ is_odd (ones b)
parity-xor a b = go (both-lt a b)
  where
    go : (n : ℕ) × (a < 2 ^ n) × (b < 2 ^ n) → is_odd (ones (bit_xor a b)) ≡ is_odd (ones a) ⊕ is_odd (ones b)
    go (n, ha, hb) =
        parity-ones n (bit_xor a b) (xor_lt n a b ha hb) ∙ fold-ext false ◌⊕◌ n (λ q l. bit-xor a b q)
        ∙ fold-mul false ◌⊕◌ bit_monoid ⊕-comm n (bit a) (bit b)
        ∙ sym (ap₂ ◌⊕◌ (parity-ones n a ha) (parity-ones n b hb))

and_xor : (a b c : ℕ) → bit_and (bit_xor a b) c ≡ bit_xor (bit_and a c) (bit_and b c)
and_xor a b c =
    bit-ext∞ _ _
    (λ q. bit-and (bit_xor a b) c q ∙ ap (λ x. x && bit c q) (bit-xor a b q)
    ∙ ⊕-and (bit a q) (bit b q) (bit c q)
    ∙ sym (bit-xor (bit_and a c) (bit_and b c) q ∙ ap₂ ◌⊕◌ (bit-and a c q) (bit-and b c q)))

pub dot-comm : (a b : ℕ) → dot a b ≡ dot b a
unfolding dot
dot-comm a b = ap (λ k. is_odd (ones k)) (and_comm a b)

pub dot-xor : (a b c : ℕ) → dot (bit_xor a b) c ≡ dot a c ⊕ dot b c
unfolding dot
dot-xor a b c = ap (λ k. is_odd (ones k)) (and_xor a b c) ∙ parity-xor (bit_and a c) (bit_and b c)

pub dot-xor-r : (a b c : ℕ) → dot a (bit_xor b c) ≡ dot a b ⊕ dot a c
dot-xor-r a b c = dot-comm a (bit_xor b c) ∙ dot-xor b c a ∙ ap₂ ◌⊕◌ (dot-comm b a) (dot-comm c a)

-- place by place
pub dot-bits : (n a b : ℕ) → a < 2 ^ n → b < 2 ^ n → dot a b ≡ parity n (λ q. bit a q && bit b q)
unfolding dot
dot-bits n a b ha hb =
    parity-ones n (bit_and a b) (and_lt n a b ha hb) ∙ fold-ext false ◌⊕◌ n (λ q l. bit-and a b q)
