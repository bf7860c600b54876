-- Digits read back: the value of a printed digit is the digit, a byte that has a value is its printed digit,
-- and the digits of a number lead back to it.
use mathlib.Core.Path.{◌≡◌, refl, ap, ap₂, ◌∙◌, subst}
use mathlib.Core.Bool.{Bool}
use mathlib.Core.List.{List, [], ◌∷◌, ◌++◌}
use Prim.Native.Nat.{ℕ, zero, suc, ◌+◌, ◌-◌, ◌*◌, ◌/◌, ◌%◌, ◌^◌, ◌<◌}
use native.Mathlib.Nat.{mod-eq_of_lt, div-lt_iff_lt-mul, pow-suc}
use native.Mathlib.Omega.{arith}
use lib.Dec.{ltb, lit<}
use borrow.Author.Tests.{lt-ltb, le-ltb, ltb-true, ltb-false}
use Rattle.words.proofs.Flags.{by-test}
use Rattle.text.specs.Text.{hex_digit, hex_text, hex_value, decimal}
use Rattle.text.specs.internal.Scan.{push}

pub value-digit : (d : ℕ) → d < 16 → hex_value (hex_digit d) ≡ d
unfolding hex_value hex_digit
value-digit d small =
    by-test (λ b. hex_value b ≡ d) (ltb d 10) (48 + d) (87 + d)
    (λ t. let h = ltb-true d 10 t in
    simp (le-ltb (48 + d) 48 (omega arith), lt-ltb (48 + d) 58 (omega arith)) (omega arith))
    (λ t. let h = ltb-false d 10 t in
    simp (
      le-ltb (87 + d) 48 (omega arith),
      le-ltb (87 + d) 58 (omega arith),
      le-ltb (87 + d) 97 (omega arith),
      lt-ltb (87 + d) 103 (omega arith),
    ) (omega arith))

pub digit_value : (b : ℕ) → hex_value b < 16 → hex_digit (hex_value b) ≡ b
unfolding hex_value hex_digit
digit_value b =
    by-test Right (ltb b 48) 16 _ none
    (λ t₀. by-test Right (ltb b 58) (b - 48) _
    (λ t small. let above = ltb-false b 48 t₀ in let below = ltb-true b 58 t in
    simp (lt-ltb (b - 48) 10 (omega arith)) (omega arith))
    (λ t₁. by-test Right (ltb b 97) 16 _ none
    (λ t₂. by-test Right (ltb b 103) (b - 87) 16
    (λ t small. let above = ltb-false b 97 t₂ in let below = ltb-true b 103 t in
    simp (le-ltb (b - 87) 10 (omega arith)) (omega arith))
    none)))
  where
    Right : ℕ → Type 0
    Right v = v < 16 → hex_digit v ≡ b

    none : {t u : Bool} → t ≡ u → Right 16
    none e small = absurd (omega arith)

-- a word below 2 ^ 60 takes one more digit
pub push-exact : (w d : ℕ) → w < 2 ^ 60 → push w d ≡ w * 16 + d
unfolding push
push-exact w d small = ap (λ v. v + d) (mod-eq_of_lt (omega arith))

-- the number that has these hexadecimal digits behind those of a
unfoldable pub read_hex : ℕ → List ℕ → ℕ
read_hex a [] = a
read_hex a (b ∷ bs) = read_hex (a * 16 + hex_value b) bs

read-append : (a : ℕ) (s t : List ℕ) → read_hex a (s ++ t) ≡ read_hex (read_hex a s) t
unfolding read_hex
read-append a [] t = refl
read-append a (b ∷ s) t = read-append (a * 16 + hex_value b) s t

-- all but the last of k + 1 digits
pub fewer_digits : (k w : ℕ) → w < 16 ^ suc k → w / 16 < 16 ^ k
fewer_digits k w small =
    (div-lt_iff_lt-mul {k = 16} {x = w} {y = 16 ^ k} (lit< tt)).1 (subst (λ n. w < n) (pow-suc 16 k) small)

-- the printed digits of a word read back to the word
pub hex-back : (k w : ℕ) → w < 16 ^ k → read_hex 0 (hex_text k w) ≡ w
unfolding hex_text read_hex
hex-back zero w small = omega arith
hex-back (suc k) w small =
    let d = hex_digit (w % 16) in
    read-append 0 (hex_text k (w / 16)) (d ∷ [])
    ∙ ap₂ (λ a v. a * 16
    + v) (hex-back k (w / 16) (fewer_digits k w small)) (value-digit (w % 16) (omega arith))
    ∙ omega arith

-- a printed decimal number reads back to the number
unfoldable pub read_decimal : ℕ → List ℕ → ℕ
read_decimal a [] = a
read_decimal a (b ∷ bs) = read_decimal (a * 10 + (b - 48)) bs

pub decimal-back : (k : ℕ) → k < 100 → read_decimal 0 (decimal k) ≡ k
unfolding decimal read_decimal
decimal-back k small =
    by-test (λ l. read_decimal 0 l ≡ k) (ltb k 10) ((48 + k) ∷ []) ((48 + k / 10) ∷ (48 + k % 10) ∷ [])
    (λ t. omega (arith, ltb-true k 10 t)) (λ t. omega (arith, ltb-false k 10 t))
