-- One bit of every number of a list as a word, made from the last number to the first.
use mathlib.Core.Bool.{Bool, false}
use mathlib.Core.List.{List}
use mathlib.Core.Path.{ap, sym, ◌∙◌, ◌≡◌}
use Prim.Native.Nat.{◌*◌, ◌+◌, ◌-◌, ◌<◌, ◌^◌, suc, zero, ℕ, ◌≤◌}
use native.Mathlib.Omega.{arith}
use lib.Arith.{digits_div, digits_mod}
use lib.Dec.{eqb}
use lib.ListN.{get_or-eq_default, get_or, length}
use Rattle.words.proofs.BitLaws.{bit-suc, bit-zero, digit_lt, lt-of-bits, odd-digit, zero_bit}
use Rattle.words.specs.Bits.{bit, digit}

-- a digit below a word
module _ (w : ℕ) (b : Bool) where
  doubled-zero : bit (w * 2 + digit b) 0 ≡ b
  doubled-zero = bit-zero _ ∙ ap (λ k. eqb k 1) (digits_mod w (digit_lt b)) ∙ odd-digit b

  doubled-suc : (j : ℕ) → bit (w * 2 + digit b) (suc j) ≡ bit w j
  doubled-suc j = bit-suc _ j ∙ ap (λ k. bit k j) (digits_div w (digit_lt b))

-- the loop's invariant: the word has bit k of the numbers from place q on
pub record DigitsFrom (cs : List ℕ) (k word q : ℕ) : Type 0 where
  pub upto : q ≤ length cs
  pub held : (j : ℕ) → bit word j ≡ bit (get_or cs (q + j) 0) k

module _ (cs : List ℕ) (k : ℕ) where
  -- no number stands at or above the length
  past : (q : ℕ) → length cs ≤ q → bit (get_or cs q 0) k ≡ false
  past q l = ap (λ c. bit c k) (get_or-eq_default cs 0 l) ∙ zero_bit k

  pub digits-none : DigitsFrom cs k 0 (length cs)
  digits-none =
      record { upto = omega arith; held = λ j. zero_bit j ∙ sym (past (length cs + j) (omega arith)) }

  pub digits-room : (word q : ℕ) → DigitsFrom cs k word q → length cs ≤ 64 → 0 < q → word < 2 ^ 63
  digits-room word q D few more =
      lt-of-bits 63 word (λ j l. D.held j ∙ past (q + j) (omega (arith, few, more, l)))

  pub digits-one : (word q d : ℕ) → DigitsFrom cs k word q → 0 < q → d ≡ digit (bit (get_or cs (q - 1) 0) k)
      → DigitsFrom cs k (word * 2 + d) (q - 1)
  digits-one word q d D more e =
      record {
        upto = omega (arith, D.upto);
        held = λ j. ap (λ d. bit (word * 2 + d) j) e ∙ at j;
      }
    where
      at : (j : ℕ) → bit (word * 2 + digit (bit (get_or cs (q - 1) 0) k)) j ≡ bit (get_or cs (q - 1 + j) 0) k
      at zero = doubled-zero word (bit (get_or cs (q - 1) 0) k) ∙ ap (λ i. bit (get_or cs i 0) k) (omega arith)
      at (suc j) = doubled-suc word (bit (get_or cs (q - 1) 0) k) j ∙ D.held j
          ∙ ap (λ i. bit (get_or cs i 0) k) (omega (arith, more))
