-- Eight rows of eight bits in a word, transposed by exchanging bits that lie 7, 14 and 28 places apart.
use mathlib.Core.Bool.{◌&&◌, Bool, and-false, cond, false, false≢true, not, true}
use mathlib.Core.Logic.{inl, inr, ◌⊎◌}
use mathlib.Core.Path.{ap, ap₂, refl, sym, ◌∙◌, ◌≡◌}
use Prim.Native.Nat.{◌%◌, ◌*◌, ◌+◌, ◌-◌, ◌/◌, ◌<◌, ◌^◌, ℕ, ◌≤◌}
use native.Mathlib.Nat.{mod-lt}
use native.Mathlib.Omega.{arith}
use lib.Bits.{bit_and, bit_xor, xor_lt}
use lib.Dec.{eqb, leb, lit<, ltb}
use borrow.Author.Tests.{eqb-true, le-leb, lt-leb, ltb-true}
use Rattle.words.proofs.PairWords.{bit-mod, bit-shl, bit-shl-low}
use Rattle.words.proofs.BitLaws.{and-lt-right, bit-and, bit-shr, bit-xor}
use Rattle.words.proofs.Finite.{bits}
use Rattle.words.proofs.Flags.{both_true}
use Rattle.words.proofs.SearchLaws.{every-at}
use Rattle.words.proofs.Sums.{lt-or-ge}
use Rattle.words.specs.Bits.{Word, ◌⊕◌, bit}
use Rattle.words.specs.Search.{every}

-- the place from which the bit at j comes, where those of the mask are exchanged with those s places above them
abbrev source : ℕ → ℕ → ℕ → ℕ
source s m j = cond (bit m j) (s + j) (cond (leb s j && bit m (j - s)) (j - s) j)

-- no place is the lower of two and the upper of two
abbrev single : ℕ → ℕ → ℕ → Bool
single s m j = not (bit m j && (leb s j && bit m (j - s)))

chosen : (f : Word) (p q r : ℕ) (a b : Bool) → not (a && b) ≡ true
    → (f r ⊕ ((f r ⊕ f p) && a)) ⊕ ((f q ⊕ f r) && b) ≡ f (cond a p (cond b q r))
chosen f p q r true true e = absurd (false≢true e)
chosen f p q r true false e = bits 3 (λ x y z. (x ⊕ ((x ⊕ y) && true)) ⊕ ((z ⊕ x) && false)) (λ x y z. y) tt
    (f r) (f p) (f q)
chosen f p q r false true e = bits 3 (λ x y z. (x ⊕ ((x ⊕ y) && false)) ⊕ ((z ⊕ x) && true)) (λ x y z. z) tt
    (f r) (f p) (f q)
chosen f p q r false false e = bits 3 (λ x y z. (x ⊕ ((x ⊕ y) && false)) ⊕ ((z ⊕ x) && false)) (λ x y z. x) tt
    (f r) (f p) (f q)

module _ (s m w : ℕ) where
  abbrev d : ℕ
  d = bit_and (bit_xor w (w / 2 ^ s)) m

  abbrev swapped : ℕ
  swapped = bit_xor (bit_xor w d) (d * 2 ^ s % 2 ^ 64)

  differs : (j : ℕ) → bit d j ≡ ((bit w j ⊕ bit w (s + j)) && bit m j)
  differs j = bit-and (bit_xor w (w / 2 ^ s)) m j
      ∙ ap (λ v. v && bit m j) (bit-xor w (w / 2 ^ s) j ∙ ap (λ v. bit w j ⊕ v) (bit-shr w s j))

  shifted : (j : ℕ) → j < 64 → bit (d * 2 ^ s % 2 ^ 64) j ≡ ((bit w (j - s) ⊕ bit w j) && (leb s j && bit m (j - s)))
  shifted j h = bit-mod (d * 2 ^ s) 64 j h ∙ go (lt-or-ge j s)
    where
      go : (j < s) ⊎ (s ≤ j) → bit (d * 2 ^ s) j ≡ ((bit w (j - s) ⊕ bit w j) && (leb s j && bit m (j - s)))
      go (inl l) = bit-shl-low d s j l
          ∙ sym (ap (λ v. (bit w (j - s) ⊕ bit w j) && (v && bit m (j - s))) (lt-leb s j l)
          ∙ and-false (bit w (j - s) ⊕ bit w j))
      go (inr l) =
          let whole : s + (j - s) ≡ j = omega (arith, l) in
          ap (bit (d * 2 ^ s)) (sym whole) ∙ bit-shl d s (j - s) ∙ differs (j - s)
          ∙ ap₂ (λ q v. (bit w (j - s) ⊕ bit w q) && (v && bit m (j - s))) whole (sym (le-leb s j l))

  swapped-bit : (j : ℕ) → j < 64 → single s m j ≡ true → bit swapped j ≡ bit w (source s m j)
  swapped-bit j h e =
      bit-xor (bit_xor w d) (d * 2 ^ s % 2 ^ 64) j
      ∙ ap₂ ◌⊕◌ (bit-xor w d j ∙ ap (λ v. bit w j ⊕ v) (differs j)) (shifted j h)
      ∙ chosen (bit w) (s + j) (j - s) j (bit m j) (leb s j && bit m (j - s)) e

  swapped-short : m < 2 ^ 64 → w < 2 ^ 64 → swapped < 2 ^ 64
  swapped-short k l = xor_lt 64 (bit_xor w d) (d * 2 ^ s % 2 ^ 64)
      (xor_lt 64 w d l (and-lt-right 64 (bit_xor w (w / 2 ^ s)) m k)) (mod-lt (d * 2 ^ s) (lit< tt))

-- ---- the three rounds
abbrev near : ℕ
near = 47851476196393130

abbrev middle : ℕ
middle = 225176545447116

abbrev far : ℕ
far = 4042322160

-- where the bit at j comes from, round by round, the last round first
abbrev third : ℕ → ℕ
third j = source 28 far j

abbrev second : ℕ → ℕ
second j = source 14 middle (third j)

-- each round moves a place at most once, and all three exchange row and column
abbrev tested : ℕ → Bool
tested j = (single 28 far j && (ltb (third j) 64 && single 14 middle (third j)))
    && ((ltb (second j) 64 && single 7 near (second j)) && eqb (source 7 near (second j)) (8 * (j % 8) + j / 8))

all_tested : (j : ℕ) → j < 64 → tested j ≡ true
unfolding every bit
all_tested = every-at 64 tested refl

pub turned_bit : (w j k : ℕ) → j < 8 → k < 8
    → bit (swapped 28 far (swapped 14 middle (swapped 7 near w))) (8 * j + k) ≡ bit w (8 * k + j)
turned_bit w j k hj hk =
    let at : ℕ = 8 * j + k in
    let l : at < 64 = omega (arith, hj, hk) in
    let all = both_true _ _ (all_tested at l) in
    let last = both_true _ _ all.0 in
    let mid = both_true _ _ last.1 in
    let rest = both_true _ _ all.1 in
    let early = both_true _ _ rest.0 in
    let place : 8 * (at % 8) + at / 8 ≡ 8 * k + j = omega (arith, hj, hk) in
    swapped-bit 28 far (swapped 14 middle (swapped 7 near w)) at l last.0
    ∙ swapped-bit 14 middle (swapped 7 near w) (third at) (ltb-true _ _ mid.0) mid.1
    ∙ swapped-bit 7 near w (second at) (ltb-true _ _ early.0) early.1
    ∙ ap (bit w) (eqb-true _ _ rest.1 ∙ place)

pub turned-short : (w : ℕ) → w < 2 ^ 64 → swapped 28 far (swapped 14 middle (swapped 7 near w)) < 2 ^ 64
turned-short w l =
    swapped-short 28 far (swapped 14 middle (swapped 7 near w)) (lit< tt)
    (swapped-short 14 middle (swapped 7 near w) (lit< tt) (swapped-short 7 near w (lit< tt) l))
