-- Decimal numbers: their digits one more at the low end and back to the number; numerals of any size, and how many
-- places they take.
use mathlib.Core.Path.{◌≡◌, refl, ap, ap₂, ◌∙◌, subst}
use mathlib.Core.Bool.{Bool, cond, false, true}
use mathlib.Core.List.{List, [], ◌∷◌, ◌++◌}
use mathlib.Core.Logic.{inl, inr}
use Prim.Native.Nat.{ℕ, zero, suc, ◌+◌, ◌-◌, ◌*◌, ◌/◌, ◌%◌, ◌^◌, ◌≤◌, ◌<◌}
use native.Mathlib.Nat.{div-lt_iff_lt-mul, lt_trans, pow-suc}
use native.Mathlib.Omega.{arith}
use lib.Dec.{ltb, lit<}
use lib.ListN.{length, length-append}
use borrow.Author.Tests.{lt-ltb, le-ltb, ltb-false, ne_eqb}
use Rattle.words.proofs.Flags.{by-test}
use Rattle.words.proofs.Sums.{lt-or-ge}
use Rattle.words.specs.Bits.{digit}
use Rattle.text.specs.Reading.{line_count}
use Rattle.text.specs.RecordTexts.{numeral}
use Rattle.text.specs.Text.{decimal, digits}
use Rattle.text.proofs.DigitLaws.{read_decimal}
use Rattle.text.proofs.TextLaws.{count-append}

-- one place is enough for a number below 10
pub one_place : (k v : ℕ) → v < 10 → digits (suc k) v ≡ (48 + v) ∷ []
unfolding digits
one_place k v small = simp (lt-ltb v 10 small)

-- two places for a number below 100
pub two-places : (k v : ℕ) → v < 100 → digits (suc (suc k)) v ≡ decimal v
unfolding digits decimal
two-places k v small =
    ap (λ l. cond (ltb v 10) ((48 + v) ∷ []) (l ++ (48 + v % 10) ∷ [])) (one_place k (v / 10) (omega arith))

-- the last digit, and those before it
pub digits_last : (k v : ℕ) → 10 ≤ v → digits (suc k) v ≡ digits k (v / 10) ++ (48 + v % 10) ∷ []
unfolding digits
digits_last k v long = simp (le-ltb v 10 long)

read-append : (a : ℕ) (s t : List ℕ) → read_decimal a (s ++ t) ≡ read_decimal (read_decimal a s) t
unfolding read_decimal
read-append a [] t = refl
read-append a (b ∷ s) t = read-append (a * 10 + (b - 48)) s t

-- all but the last of k + 1 digits
pub fewer_digits : (k v : ℕ) → v < 10 ^ suc k → v / 10 < 10 ^ k
fewer_digits k v small =
    (div-lt_iff_lt-mul {k = 10} {x = v} {y = 10 ^ k} (lit< tt)).1 (subst (λ n. v < n) (pow-suc 10 k) small)

-- the digits of a number lead back to it
pub digits-back : (k v : ℕ) → v < 10 ^ k → read_decimal 0 (digits k v) ≡ v
unfolding digits read_decimal
digits-back zero v small = omega arith
digits-back (suc k) v small =
    by-test (λ l. read_decimal 0 l ≡ v) (ltb v 10) ((48 + v) ∷ []) (digits k (v / 10) ++ (48 + v % 10) ∷ [])
    (λ one. omega arith)
    (λ more. read-append 0 (digits k (v / 10)) ((48 + v % 10) ∷ [])
    ∙ ap (λ a. a * 10 + (48 + v % 10 - 48)) (digits-back k (v / 10) (fewer_digits k v small))
    ∙ omega arith)

-- ---- numerals of any size
-- more places than the number are enough
enough : (j k v : ℕ) → v < j → v < k → digits j v ≡ digits k v
unfolding digits
enough zero k v a b = absurd (omega arith)
enough (suc j) zero v a b = absurd (omega arith)
enough (suc j) (suc k) v a b =
    by_size (ltb v 10) refl (λ long. enough j k (v / 10) (omega arith) (omega arith))
  where
    by_size : (t : Bool) → ltb v 10 ≡ t → (10 ≤ v → digits j (v / 10) ≡ digits k (v / 10)) →
        cond t ((48 + v) ∷ []) (digits j (v / 10) ++ (48 + v % 10) ∷ [])
        ≡ cond t ((48 + v) ∷ []) (digits k (v / 10) ++ (48 + v % 10) ∷ [])
    by_size true e h = refl
    by_size false e h = ap (λ l. l ++ (48 + v % 10) ∷ []) (h (ltb-false v 10 e))

pub numeral-one : (v : ℕ) → v < 10 → numeral v ≡ (48 + v) ∷ []
numeral-one v small = one_place v v small

pub numeral-last : (v : ℕ) → 10 ≤ v → numeral v ≡ numeral (v / 10) ++ (48 + v % 10) ∷ []
numeral-last v long =
    digits_last v v long
    ∙ ap (λ l. l ++ (48 + v % 10) ∷ []) (enough v (suc (v / 10)) (v / 10) (omega arith) (omega arith))

-- below 100 it is the decimal number of the print
pub numeral-decimal : (v : ℕ) → v < 100 → numeral v ≡ decimal v
numeral-decimal v small =
    enough (suc v) (suc (suc v)) v (omega arith) (omega arith) ∙ two-places v v small

-- a number below 10 ^ m takes at most m places
pub numeral-places : (m v : ℕ) → v < 10 ^ suc m → length (numeral v) ≤ suc m
numeral-places zero v small = omega (arith, ap length (numeral-one v small))
numeral-places (suc m) v small = elim (lt-or-ge v 10) [
  | inl few ↦ omega (arith, ap length (numeral-one v few))
  | inr many ↦ omega (
    arith,
    ap length (numeral-last v many),
    length-append (numeral (v / 10)) ((48 + v % 10) ∷ []),
    numeral-places m (v / 10) (fewer_digits (suc m) v small),
  )
]

pub word-places : (v : ℕ) → v < 2 ^ 64 → length (numeral v) ≤ 20
word-places v small = numeral-places 19 v (lt_trans small (lit< tt))

-- a digit ends no line
pub no_digit : (d : ℕ) → line_count ((48 + d) ∷ []) ≡ 0
unfolding line_count
no_digit d = ap (λ b. digit b + 0) (ne_eqb (48 + d) 10 (λ e. absurd (omega (arith, e))))

-- no byte of a number ends a line
pub digits-count : (k v : ℕ) → line_count (digits k v) ≡ 0
unfolding digits line_count
digits-count zero v = refl
digits-count (suc k) v =
    by-test (λ l. line_count l ≡ 0) (ltb v 10) ((48 + v) ∷ []) (digits k (v / 10) ++ (48 + v % 10) ∷ [])
    (λ e. no_digit v)
    (λ e. count-append (digits k (v / 10)) ((48 + v % 10) ∷ [])
    ∙ ap₂ ◌+◌ (digits-count k (v / 10)) (no_digit (v % 10)))
