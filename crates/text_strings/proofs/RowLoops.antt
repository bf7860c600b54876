-- The loop that reads both halves of a line's letters, the last letters first: the words are doubled and take one more
-- letter. The words of two halves, and the row that the line stands for.
use mathlib.Core.Bool.{Bool, true}
use mathlib.Core.List.{List}
use mathlib.Core.Path.{ap, ap₂, subst, sym, ◌∙◌, ◌≡◌}
use Prim.Native.Nat.{◌%◌, ◌*◌, ◌+◌, ◌-◌, ◌/◌, ◌<◌, ◌^◌, suc, zero, ℕ, ◌≤◌}
use native.Mathlib.Nat.{
  add-zero,
  le_refl,
  lt_of_lt_of_le,
  mul_assoc,
  mul_comm,
  mul-one,
  pow-suc,
  pow-zero,
  suc-add,
  zero-add,
}
use native.Mathlib.Omega.{arith}
use lib.Arith.{digits_div, digits_mod}
use lib.Dec.{eqb}
use lib.ListN.{get_or}
use lib.Pow.{pow_mono}
use Rattle.pauli.proofs.PhaseLaws.{sign-minus}
use Rattle.pauli.specs.Pauli.{x_bit, z_bit}
use Rattle.pauli.specs.declared.Generator.{Generator}
use Rattle.pauli.specs.declared.Letter.{Letter}
use Rattle.text.specs.Reading.{is_letter, letter_of, row_of}
use Rattle.words.proofs.BitLaws.{word-cong, word_of-lt}
use Rattle.words.specs.Bits.{Word, digit, word_of}
use Rattle.text_strings.specs.internal.Generators.{LettersFit, both_words, generator_in, letters_from}

-- the bits from q on, the first of them lowest
abbrev pub word_from : ℕ → Word → ℕ → ℕ
word_from n f q = word_of (n - q) (λ i. f (q + i))

-- one bit more
word_more : (n q : ℕ) (f : Word) → q < n → 2 * word_from n f (suc q) + digit (f q) ≡ word_from n f q
unfolding word_of
word_more n q f l =
    ap₂ ◌+◌ (mul_comm 2 (word_from n f (suc q)) ∙ ap (λ w. w * 2)
    (word-cong (n - suc q) (λ i. f (suc q + i)) (λ i. f (q + suc i)) (λ i k. ap f (omega arith))))
    (ap (λ i. digit (f i)) first)
    ∙ ap (λ k. word_of k (λ i. f (q + i))) length
  where
    first : q ≡ q + 0
    first = omega arith

    length : suc (n - suc q) ≡ n - q
    length = omega arith

-- the first m bits and the k behind them
word-halves : (m k : ℕ) (f : Word) → word_of (m + k) f ≡ word_of m f + word_of k (λ i. f (m + i)) * 2 ^ m
unfolding word_of
word-halves zero k f =
    ap (λ i. word_of i f) (zero-add k) ∙ word-cong k f (λ i. f (0 + i)) (λ i l. ap f (omega arith))
    ∙ sym (zero-add _ ∙ ap (λ p. word_of k (λ i. f (0 + i)) * p) (pow-zero 2) ∙ mul-one (word_of k (λ i. f (0 + i))))
word-halves (suc m) k f =
    ap (λ i. word_of i f) (suc-add m k)
    ∙ ap (λ w. w * 2 + digit (f 0)) (word-halves m k (λ q. f (suc q)))
    ∙ arranged (word_of m (λ q. f (suc q))) (word_of k (λ i. f (suc (m + i)))) (2 ^ m) (digit (f 0))
    ∙ ap₂ (λ w p. word_of m (λ q. f (suc q)) * 2 + digit (f 0) + w * p)
    (word-cong k (λ i. f (suc (m + i))) (λ i. f (suc m + i)) (λ i l. ap f (omega arith))) (sym (pow-suc 2 m))
  where
    arranged : (a b p d : ℕ) → (a + b * p) * 2 + d ≡ a * 2 + d + b * (p * 2)
    arranged a b p d = omega (arith, mul_assoc b p 2)

-- the letters from q on are read
pub record LettersRead (n : ℕ) (f g : Word) (w q : ℕ) : Type 0 where
  pub upto : q ≤ n
  pub words : w ≡ both_words (word_from n f q) (word_from n g q)

module _ (n : ℕ) (f g : Word) where
  pub none_read : LettersRead n f g 0 n
  unfolding word_of
  none_read = record {
    upto = le_refl n;
    words = ap (λ k. both_words (word_of k (λ i. f (n + i)))
        (word_of k (λ i. g (n + i)))) none;
  }
    where
      none : 0 ≡ n - n
      none = omega arith

  module _ {w q : ℕ} (L : LettersRead n f g w q) (some : 0 < q) where
    last : suc (q - 1) ≡ q
    last = omega arith

    doubled : (f : Word) → 2 * word_from n f q + digit (f (q - 1)) ≡ word_from n f (q - 1)
    doubled f =
        ap (λ k. 2 * word_from n f k + digit (f (q - 1))) (sym last)
        ∙ word_more n (q - 1) f (omega (arith, L.upto, some))

    one-read : LettersRead n f g (2 * w + both_words (digit (f (q - 1))) (digit (g (q - 1)))) (q - 1)
    one-read = record { upto = omega (arith, L.upto); words = omega (arith, L.words, doubled f, doubled g) }

    pub room : n ≤ 32 → 2 * w + 4294967297 < 2 ^ 64
    room few = omega (arith, below f, below g, L.words)
      where
        few-left : n - q ≤ 31
        few-left = omega (arith, some, few)

        below : (f : Word) → word_from n f q < 2 ^ 31
        below f = lt_of_lt_of_le (word_of-lt (n - q) (λ i. f (q + i))) (pow_mono few-left)

  -- all letters: the two words
  module _ {w q : ℕ} (L : LettersRead n f g w q) (done : q ≤ 0) (few : n ≤ 32) where
    whole : (f : Word) → word_from n f q ≡ word_of n f
    whole f = ap (word_from n f) none ∙ ap (λ k. word_of k (λ i. f (0 + i))) all ∙ word-cong n _ f
        (λ i l. ap f (omega arith))
      where
        none : q ≡ 0
        none = omega arith

        all : n - 0 ≡ n
        all = omega arith

    both : w ≡ both_words (word_of n f) (word_of n g)
    both = L.words ∙ ap₂ both_words (whole f) (whole g)

    below : word_of n f < 2 ^ 32
    below = lt_of_lt_of_le (word_of-lt n f) (pow_mono few)

    pub low_word : w % 4294967296 ≡ word_of n f
    low_word = ap (λ v. v % 4294967296) both ∙ digits_mod (word_of n g) below

    pub high_word : w / 4294967296 ≡ word_of n g
    high_word = ap (λ v. v / 4294967296) both ∙ digits_div (word_of n g) below

-- ---- the letters of the line that starts at a place
abbrev pub bits_from : (Letter → Bool) → List ℕ → ℕ → Word
bits_from part t from q = part (letter_of (get_or t (from + suc q) 0))

-- the bits of the byte at a place
abbrev bits_at : List ℕ → ℕ → ℕ
bits_at t k = both_words (digit (z_bit (letter_of (get_or t k 0)))) (digit (x_bit (letter_of (get_or t k 0))))

-- the letter of qubit q - 1 stands q places behind the start
module _ (t : List ℕ) (from q : ℕ) (some : 0 < q) where
  back : from + q ≡ from + suc (q - 1)
  back = omega arith

  pub letter-fit : (n : ℕ) → LettersFit t from n → q ≤ n → {at : ℕ} → at ≡ from + q →
      is_letter (get_or t at 0) ≡ true
  letter-fit n F l p = ap (λ k. is_letter (get_or t k 0)) (p ∙ back) ∙ F (q - 1) (omega arith)

  pub letter-read : (m : ℕ) {w : ℕ} → LettersRead m (bits_from z_bit t from) (bits_from x_bit t from) w q →
      {at r : ℕ} → at ≡ from + q → r ≡ 2 * w + bits_at t at →
      LettersRead m (bits_from z_bit t from) (bits_from x_bit t from) r (q - 1)
  letter-read m {w} L {at} {r} p e =
      subst (λ v. LettersRead m (bits_from z_bit t from) (bits_from x_bit t from) v (q - 1))
      (sym (e ∙ ap (λ k. 2 * w + bits_at t k) (p ∙ back)))
      (one-read m (bits_from z_bit t from) (bits_from x_bit t from) L some)

-- the letter that an upper half has more than the lower one
module _ (t : List ℕ) (from n : ℕ) where
  pub odd-read : n % 2 ≡ 1 → {a : ℕ} →
      a ≡ bits_at t (from + n) → a ≡ letters_from t (from + n / 2) (n - n / 2) (n / 2)
  unfolding word_of
  odd-read odd e =
      e ∙ ap (bits_at t) place
      ∙ sym (ap₂ both_words (zero-add _) (zero-add _))
      ∙ ap (λ k. both_words (word_of k (λ i. bits_from z_bit t (from + n / 2) (n / 2 + i)))
      (word_of k (λ i. bits_from x_bit t (from + n / 2) (n / 2 + i)))) (sym one)
    where
      place : from + n ≡ from + n / 2 + suc (n / 2 + 0)
      place = omega (arith, odd)

      one : n - n / 2 - n / 2 ≡ 1
      one = omega (arith, odd)

  pub even-read : (n % 2 ≡ 1 → ⊥) → 0 ≡ letters_from t (from + n / 2) (n - n / 2) (n / 2)
  unfolding word_of
  even-read even =
      ap (λ k. both_words (word_of k (λ i. bits_from z_bit t (from + n / 2) (n / 2 + i)))
      (word_of k (λ i. bits_from x_bit t (from + n / 2) (n / 2 + i)))) (sym none)
    where
      none : n - n / 2 - n / 2 ≡ 0
      none = omega (arith, even)

-- ---- the row
abbrev generator : Bool → ℕ → ℕ → Generator
generator m z x = record { minus = m; z = z; x = x }

module _ (t : List ℕ) (from n : ℕ) where
  abbrev pub Halves : ℕ → ℕ → ℕ → Type 0
  Halves low high q =
      LettersRead (n / 2) (bits_from z_bit t from) (bits_from x_bit t from) low q
      × LettersRead (n - n / 2) (bits_from z_bit t (from + n / 2)) (bits_from x_bit t (from + n / 2)) high q

  joins : (part : Letter → Bool) →
      word_of (n / 2) (bits_from part t from) + word_of (n - n / 2) (bits_from part t (from + n / 2)) * 2 ^ (n / 2)
      ≡ word_of n (bits_from part t from)
  joins part =
      ap (λ w. word_of (n / 2) (bits_from part t from) + w * 2 ^ (n / 2))
      (word-cong (n - n / 2) _ (λ i. bits_from part t from (n / 2 + i))
      (λ i l. ap (λ k. part (letter_of (get_or t k 0))) (omega arith)))
      ∙ sym (word-halves (n / 2) (n - n / 2) (bits_from part t from))
      ∙ ap (λ k. word_of k (bits_from part t from)) (omega arith)

  module _ (few : n ≤ 64) {low high q : ℕ} (H : Halves low high q) (done : q ≤ 0) where
    half : n / 2 ≤ 32
    half = omega (arith, few)

    other : n - n / 2 ≤ 32
    other = omega (arith, few)

    fits : (part : Letter → Bool) → {a b : ℕ} → a ≡ word_of (n / 2) (bits_from part t from) →
        b ≡ word_of (n - n / 2) (bits_from part t (from + n / 2)) → a + b * 2 ^ (n / 2) ≡ word_of n (bits_from part t from)
    fits part ea eb = ap₂ (λ a b. a + b * 2 ^ (n / 2)) ea eb ∙ joins part

    joinable : (part : Letter → Bool) → {a b : ℕ} → a ≡ word_of (n / 2) (bits_from part t from) →
        b ≡ word_of (n - n / 2) (bits_from part t (from + n / 2)) →
        (n / 2 ≤ 32) × (b < 2 ^ 32) × (a + b * 2 ^ (n / 2) < 2 ^ 64)
    joinable part {a} {b} ea eb = (
      half,
      subst (λ v. v < 2 ^ 32) (sym eb)
          (lt_of_lt_of_le (word_of-lt (n - n / 2) (bits_from part t (from + n / 2))) (pow_mono other)),
      subst (λ v. v < 2 ^ 64) (sym (fits part ea eb))
          (lt_of_lt_of_le (word_of-lt n (bits_from part t from)) (pow_mono few)),
    )

    z-low : low % 4294967296 ≡ word_of (n / 2) (bits_from z_bit t from)
    z-low = low_word _ _ _ H.0 done half

    z-high : high % 4294967296 ≡ word_of (n - n / 2) (bits_from z_bit t (from + n / 2))
    z-high = low_word _ _ _ H.1 done other

    x-low : low / 4294967296 ≡ word_of (n / 2) (bits_from x_bit t from)
    x-low = high_word _ _ _ H.0 done half

    x-high : high / 4294967296 ≡ word_of (n - n / 2) (bits_from x_bit t (from + n / 2))
    x-high = high_word _ _ _ H.1 done other

    -- the halves can be joined
    pub z-joins : (n / 2 ≤ 32) × (high % 4294967296 < 2 ^ 32)
        × (low % 4294967296 + high % 4294967296 * 2 ^ (n / 2) < 2 ^ 64)
    z-joins = joinable z_bit z-low z-high

    pub x-joins : (n / 2 ≤ 32) × (high / 4294967296 < 2 ^ 32)
        × (low / 4294967296 + high / 4294967296 * 2 ^ (n / 2) < 2 ^ 64)
    x-joins = joinable x_bit x-low x-high

    pub row_read : {z x : ℕ} → z ≡ low % 4294967296 + high % 4294967296 * 2 ^ (n / 2) →
        x ≡ low / 4294967296 + high / 4294967296 * 2 ^ (n / 2) →
        generator (eqb (get_or t from 0) 45) z x ≡ generator_in n (row_of (λ c. get_or t (from + c) 0))
    row_read {z} {x} ez ex =
        ap (λ m. generator m z x) (ap (λ k. eqb (get_or t k 0) 45) (sym (add-zero from)) ∙ sym (sign-minus _))
        ∙ ap₂ (generator _) (ez ∙ fits z_bit z-low z-high) (ex ∙ fits x_bit x-low x-high)
