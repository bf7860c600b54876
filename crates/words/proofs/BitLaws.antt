-- The bits of a word: of xor, and, or, a mask and a single bit; words are equal where their bits are.
use mathlib.Core.Bool.{◌&&◌, Bool, and-false, cond, false, true, ◌||◌}
use mathlib.Core.Path.{ap, ap₂, refl, subst, sym, ◌∙◌, ◌≡◌}
use Prim.Native.Nat.{◌%◌, ◌*◌, ◌+◌, ◌-◌, ◌/◌, ◌<◌, ◌^◌, suc, zero, ℕ, ◌≤◌}
use native.Mathlib.Decide.{ℕ_discrete}
use native.Mathlib.Nat.{
  add-mod,
  div-add-mod',
  div-div-eq-div-mul,
  div-eq_of_lt,
  div-lt_iff_lt-mul,
  div-one,
  le-add_left,
  le-add_right,
  lt_of_lt_of_le,
  mod-lt,
  mul-div_cancel,
  mul-mod_left,
  not-suc-le-zero,
  one-mul,
  pow-suc,
  pow-succ',
  zero-div,
}
use native.Mathlib.Numerals.{add-one}
use native.Mathlib.Omega.{arith}
use lib.Arith.{digits_div, digits_lt, digits_mod, lt-one}
use lib.Bits.{and_mod, and_shr, bit_and, bit_or, bit_xor, or_mod, or_shr, xor_add_and, xor_mod, xor_shr}
use lib.Dec.{eqb, eqb-suc-suc, eqb-suc-zero, eqb-zero-suc, lit<}
use lib.Pow.{high, ones_lt, ones_split, pow_mono, pow_pos, shr_lt, shr-shr}
use borrow.Author.Tests.{ne_eqb}
use Rattle.words.specs.Bits.{Word, bit, digit, is_odd, word_of, ◌⊕◌}

-- ---- the lowest digit

pub two_cases : (P : ℕ → Type 0) → P 0 → P 1 → (u : ℕ) → u < 2 → P u
two_cases P a b zero l = a
two_cases P a b (suc zero) l = b
two_cases P a b (suc (suc u)) l = absurd (omega arith)

-- a statement of the lowest digit, and of two lowest digits, by its cases
pub low_digit : (P : ℕ → Type 0) → P 0 → P 1 → (w : ℕ) → P (w % 2)
low_digit P a b w = two_cases P a b (w % 2) (mod-lt w (lit< tt))

low-digits : (P : ℕ → ℕ → Type 0) → P 0 0 → P 0 1 → P 1 0 → P 1 1 → (v w : ℕ) → P (v % 2) (w % 2)
low-digits P a b c d v w = low_digit (λ u. P u (w % 2)) (low_digit (P 0) a b w) (low_digit (P 1) c d w) v

pub digit-odd : (w : ℕ) → digit (is_odd w) ≡ w % 2
digit-odd = low_digit (λ u. digit (eqb u 1) ≡ u) refl refl

pub odd-add : (a b : ℕ) → is_odd (a + b) ≡ is_odd a ⊕ is_odd b
odd-add a b =
    ap (λ k. eqb k 1) (add-mod a b 2)
    ∙ low-digits (λ u v. eqb ((u + v) % 2) 1 ≡ eqb u 1 ⊕ eqb v 1) refl refl refl refl a b

-- ---- bits of the three operations
module _ (op : ℕ → ℕ → ℕ) (g : Bool → Bool → Bool)
    (shr : (a b k : ℕ) → op a b / 2 ^ k ≡ op (a / 2 ^ k) (b / 2 ^ k))
    (low : (a b : ℕ) → is_odd (op a b) ≡ g (is_odd a) (is_odd b)) where
  bit-op : (a b q : ℕ) → bit (op a b) q ≡ g (bit a q) (bit b q)
  unfolding bit
  bit-op a b q = ap is_odd (shr a b q) ∙ low (a / 2 ^ q) (b / 2 ^ q)

pub odd-xor : (a b : ℕ) → is_odd (bit_xor a b) ≡ is_odd a ⊕ is_odd b
odd-xor a b =
    ap (λ k. eqb k 1) (xor_mod a b 1)
    ∙ low-digits (λ u v. eqb (bit_xor u v) 1 ≡ eqb u 1 ⊕ eqb v 1) refl refl refl refl a b

odd-and : (a b : ℕ) → is_odd (bit_and a b) ≡ (is_odd a && is_odd b)
odd-and a b =
    ap (λ k. eqb k 1) (and_mod a b 1)
    ∙ low-digits (λ u v. eqb (bit_and u v) 1 ≡ (eqb u 1 && eqb v 1)) refl refl refl refl a b

odd-or : (a b : ℕ) → is_odd (bit_or a b) ≡ (is_odd a || is_odd b)
odd-or a b =
    ap (λ k. eqb k 1) (or_mod a b 1)
    ∙ low-digits (λ u v. eqb (bit_or u v) 1 ≡ (eqb u 1 || eqb v 1)) refl refl refl refl a b

pub bit-xor : (a b q : ℕ) → bit (bit_xor a b) q ≡ bit a q ⊕ bit b q
bit-xor = bit-op bit_xor ◌⊕◌ xor_shr odd-xor

-- of two xors, from what is known of the last two words
pub bit-xors : (w x y : ℕ) (u v : Word) → ((q : ℕ) → bit x q ≡ u q) → ((q : ℕ) → bit y q ≡ v q)
    → (q : ℕ) → bit (bit_xor w (bit_xor x y)) q ≡ bit w q ⊕ (u q ⊕ v q)
bit-xors w x y u v hx hy q =
    bit-xor w (bit_xor x y) q ∙ ap (λ b. bit w q ⊕ b) (bit-xor x y q ∙ ap₂ ◌⊕◌ (hx q) (hy q))

pub bit-and : (a b q : ℕ) → bit (bit_and a b) q ≡ (bit a q && bit b q)
bit-and = bit-op bit_and ◌&&◌ and_shr odd-and

pub bit-or : (a b q : ℕ) → bit (bit_or a b) q ≡ (bit a q || bit b q)
bit-or = bit-op bit_or ◌||◌ or_shr odd-or

-- ---- bits one by one
pub bit-zero : (w : ℕ) → bit w 0 ≡ is_odd w
unfolding bit
bit-zero w = ap is_odd (div-one w)

pub bit-suc : (w q : ℕ) → bit w (suc q) ≡ bit (w / 2) q
unfolding bit
bit-suc w q = ap is_odd (ap (λ k. w / k) (pow-succ' 2 q) ∙ sym (div-div-eq-div-mul w 2 (2 ^ q)))

pub zero_bit : (q : ℕ) → bit 0 q ≡ false
unfolding bit
zero_bit q = ap is_odd (zero-div (2 ^ q))

-- a word where a test holds, else 0
pub bit-cond : (b : Bool) (w q : ℕ) → bit (cond b w 0) q ≡ (b && bit w q)
bit-cond false w q = zero_bit q
bit-cond true w q = refl

pub bit-shr : (w k q : ℕ) → bit (w / 2 ^ k) q ≡ bit w (k + q)
unfolding bit
bit-shr w k q = ap is_odd (shr-shr w k q)

-- ---- words are equal where their bits are
pub half_lt : {w : ℕ} (n : ℕ) → w < 2 ^ suc n → w / 2 < 2 ^ n
half_lt n h = shr_lt n 1 (rw add-one h)

pub bit-ext : (n a b : ℕ) → a < 2 ^ n → b < 2 ^ n → ((q : ℕ) → q < n → bit a q ≡ bit b q) → a ≡ b
bit-ext zero a b ha hb h = lt-one ha ∙ sym (lt-one hb)
bit-ext (suc n) a b ha hb h =
    sym (div-add-mod' a 2)
    ∙ ap₂ (λ u v. u * 2 + v)
    (bit-ext n (a / 2) (b / 2) (half_lt n ha) (half_lt n hb)
    (λ q l. sym (bit-suc a q) ∙ h (suc q) (omega arith) ∙ bit-suc b q))
    (sym (digit-odd a) ∙ ap digit (sym (bit-zero a) ∙ h 0 (omega arith) ∙ bit-zero b) ∙ digit-odd b)
    ∙ div-add-mod' b 2

pub lt-pow : (n : ℕ) → n < 2 ^ n
lt-pow zero = lit< tt
lt-pow (suc n) = omega (arith, lt-pow n, pow-succ' 2 n)

-- with no bound
pub bit-ext∞ : (a b : ℕ) → ((q : ℕ) → bit a q ≡ bit b q) → a ≡ b
bit-ext∞ a b h =
    bit-ext (a + b) a b (lt_of_lt_of_le (lt-pow a) (pow_mono (le-add_right a b)))
    (lt_of_lt_of_le (lt-pow b) (pow_mono (le-add_left b a))) (λ q _. h q)

-- ---- stray bits: a word is below 2 ^ n exactly if it has no bit at or above n
pub bit-above : (n w : ℕ) → w < 2 ^ n → (q : ℕ) → n ≤ q → bit w q ≡ false
unfolding bit
bit-above n w h q l = ap is_odd (div-eq_of_lt (lt_of_lt_of_le h (pow_mono l)))

pub lt-of-bits : (n w : ℕ) → ((q : ℕ) → n ≤ q → bit w q ≡ false) → w < 2 ^ n
lt-of-bits n w h =
    let none : w / 2 ^ n ≡ 0 = bit-ext∞ (w / 2 ^ n) 0
    (λ q. bit-shr w n q ∙ h (n + q) (le-add_right n q) ∙ sym (zero_bit q)) in
    rw one-mul at ((div-lt_iff_lt-mul {x = w} {y = 1} (pow_pos n)).0 (rw none (lit< tt)))

-- ---- a single bit, a flip and a mask
pub bit-single : (i q : ℕ) → bit (2 ^ i) q ≡ eqb q i
bit-single zero zero = bit-zero 1
bit-single zero (suc q) = bit-suc 1 q ∙ zero_bit q ∙ sym (eqb-suc-zero q)
bit-single (suc i) zero =
    bit-zero (2 ^ suc i) ∙ ap (λ k. eqb (k % 2) 1) (pow-suc 2 i) ∙ ap (λ k. eqb k 1) (mul-mod_left (2 ^ i) 2)
    ∙ sym (eqb-zero-suc i)
bit-single (suc i) (suc q) =
    bit-suc (2 ^ suc i) q ∙ ap (λ k. bit (k / 2) q) (pow-suc 2 i)
    ∙ ap (λ k. bit k q) (mul-div_cancel (2 ^ i) (lit< tt)) ∙ bit-single i q ∙ sym (eqb-suc-suc q i)

pub bit-flip : (w i q : ℕ) → bit (bit_xor w (2 ^ i)) q ≡ bit w q ⊕ eqb q i
bit-flip w i q = bit-xor w (2 ^ i) q ∙ ap (λ b. bit w q ⊕ b) (bit-single i q)

pub bit_mask : (n q : ℕ) → q < n → bit (2 ^ n - 1) q ≡ true
unfolding bit
bit_mask n q l = ap is_odd high_part ∙ odd-ones (n - suc q)
  where
    split : n ≡ suc (n - suc q) + q
    split = omega arith

    high_part : (2 ^ n - 1) / 2 ^ q ≡ 2 ^ suc (n - suc q) - 1
    high_part =
        ap (λ k. (2 ^ k - 1) / 2 ^ q) split ∙ ap (λ k. k / 2 ^ q) (ones_split (suc (n - suc q)) q)
        ∙ high (2 ^ suc (n - suc q) - 1) q (ones_lt q)

    odd-ones : (k : ℕ) → is_odd (2 ^ suc k - 1) ≡ true
    odd-ones k =
        let e : (2 ^ suc k - 1) % 2 ≡ 1 = omega (arith, pow-succ' 2 k, pow_pos k) in
        ap (λ v. eqb v 1) e

-- ---- any bits are those of a word
pub digit_lt : (b : Bool) → digit b < 2
digit_lt false = lit< tt
digit_lt true = lit< tt

pub word_of-lt : (n : ℕ) (f : Word) → word_of n f < 2 ^ n
unfolding word_of
word_of-lt zero f = lit< tt
word_of-lt (suc n) f =
    subst (λ k. word_of n (λ q. f (suc q)) * 2 + digit (f 0) < k) (sym (pow-suc 2 n))
    (digits_lt (word_of-lt n (λ q. f (suc q))) (digit_lt (f 0)))

pub odd-digit : (b : Bool) → eqb (digit b) 1 ≡ b
odd-digit false = refl
odd-digit true = refl

pub is_odd-digit : (b : Bool) → is_odd (digit b) ≡ b
is_odd-digit false = refl
is_odd-digit true = refl

pub bit-word_of : (n : ℕ) (f : Word) (q : ℕ) → q < n → bit (word_of n f) q ≡ f q
unfolding word_of
bit-word_of zero f q l = absurd (not-suc-le-zero l)
bit-word_of (suc n) f zero l =
    bit-zero _ ∙ ap (λ k. eqb k 1) (digits_mod (word_of n (λ q. f (suc q))) (digit_lt (f 0))) ∙ odd-digit (f 0)
bit-word_of (suc n) f (suc q) l =
    bit-suc _ q ∙ ap (λ k. bit k q) (digits_div (word_of n (λ q. f (suc q))) (digit_lt (f 0)))
    ∙ bit-word_of n (λ q. f (suc q)) q (omega arith)

-- a word is told by its bits below n
pub word-cong : (n : ℕ) (f g : Word) → ((q : ℕ) → q < n → f q ≡ g q) → word_of n f ≡ word_of n g
word-cong n f g h =
    bit-ext n (word_of n f) (word_of n g) (word_of-lt n f) (word_of-lt n g)
    (λ q l. bit-word_of n f q l ∙ h q l ∙ sym (bit-word_of n g q l))

pub word_of-bit : (n w : ℕ) → w < 2 ^ n → word_of n (bit w) ≡ w
word_of-bit n w h = bit-ext n (word_of n (bit w)) w (word_of-lt n (bit w)) h (λ q l. bit-word_of n (bit w) q l)

-- ---- a set bit taken away
pub flip-less : (w q : ℕ) → bit w q ≡ true → bit_xor w (2 ^ q) < w
flip-less w q e = omega (arith, xor_add_and w (2 ^ q), both, pow_pos q)
  where
    at_place : (j : ℕ) → bit (bit_and w (2 ^ q)) j ≡ bit (2 ^ q) j
    at_place j = bit-and w (2 ^ q) j ∙ ap (λ b. bit w j && b) (bit-single q j) ∙ go (ℕ_discrete j q)
        ∙ sym (bit-single q j)
      where
        go : Dec (j ≡ q) → (bit w j && eqb j q) ≡ eqb j q
        go (yes p) = ap (λ b. b && eqb j q) (ap (bit w) p ∙ e)
        go (no d) = ap (λ b. bit w j && b) (ne_eqb j q d) ∙ and-false (bit w j) ∙ sym (ne_eqb j q d)

    both : bit_and w (2 ^ q) ≡ 2 ^ q
    both = bit-ext∞ (bit_and w (2 ^ q)) (2 ^ q) at_place

-- ---- a word with another's bits alone is no longer
pub and-lt-right : (n a b : ℕ) → b < 2 ^ n → bit_and a b < 2 ^ n
and-lt-right n a b h =
    lt-of-bits n (bit_and a b)
    (λ q l. bit-and a b q ∙ ap (λ v. bit a q && v) (bit-above n b h q l) ∙ and-false (bit a q))
