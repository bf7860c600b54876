-- The text of a list: its length, how many newlines it has, and each of its bytes by line and column.
use mathlib.Core.Bool.{Bool, false, true}
use mathlib.Core.List.{◌++◌, List, [], ◌∷◌}
use mathlib.Core.Logic.{inl, inr}
use mathlib.Core.Path.{ap, ap₂, refl, subst, sym, ◌∙◌, ◌≡◌}
use Prim.Native.Nat.{◌*◌, ◌+◌, ◌<◌, suc, zero, ℕ}
use native.Mathlib.Nat.{add_assoc, not-suc-le-zero, suc-mul, zero-add, zero-mul}
use native.Mathlib.Numerals.{add-one}
use lib.Arith.{digits_lt}
use lib.Dec.{eqb}
use lib.ListN.{get_or-append, get_or, length, length-append}
use lib.Seq.{get_or-append-add}
use Rattle.buffers.specs.Buffers.{tabulate}
use Rattle.pauli.specs.Pauli.{Pauli, letter_at, sign_bit}
use Rattle.pauli.specs.declared.Letter.{Letter}
use Rattle.pauli.specs.declared.Letter.TheVariants.{I, X, Y, Z}
use Rattle.text.specs.Text.{newline}
use Rattle.words.proofs.Sums.{last_or}
use Rattle.words.specs.Bits.{digit}
use Rattle.text.proofs.LineLaws.{length-line}
use Rattle.text.specs.Reading.{byte_at, line_count}
use Rattle.text.specs.Strings.{letter_byte, sign_byte, string_line, string_lines}

pub length-lines : (n m : ℕ) (R : ℕ → Pauli) → length (string_lines n m R) ≡ m * (n + 2)
unfolding string_lines
length-lines n zero R = sym (zero-mul (n + 2))
length-lines n (suc m) R =
    length-append (string_lines n m R) (string_line n (R m))
    ∙ ap₂ ◌+◌ (length-lines n m R) (length-line n (R m)) ∙ sym (suc-mul m (n + 2))

-- the byte in column c of line j
pub string-at : (n m : ℕ) (R : ℕ → Pauli) (j c : ℕ) → j < m → c < n + 2 →
    byte_at n (string_lines n m R) j c ≡ get_or (string_line n (R j)) c 0
unfolding string_lines
string-at n zero R j c l k = absurd (not-suc-le-zero l)
string-at n (suc m) R j c l k = elim (last_or l) [
  | inl e ↦ ap (λ i. byte_at n (string_lines n m R ++ string_line n (R m)) i c) e
      ∙ ap (λ i. get_or (string_lines n m R ++ string_line n (R m)) (i + c) 0) (sym (length-lines n m R))
      ∙ get_or-append-add (string_lines n m R) (string_line n (R m)) c 0 ∙ ap (λ i. get_or (string_line n (R i)) c 0) (sym e)
  | inr h ↦ get_or-append (string_lines n m R) (string_line n (R m)) 0 (j * (n + 2) + c)
      (subst (λ i. j * (n + 2) + c < i) (sym (length-lines n m R)) (digits_lt h k))
      ∙ string-at n m R j c h k
]

-- ---- newlines
pub count-append : (s t : List ℕ) → line_count (s ++ t) ≡ line_count s + line_count t
unfolding line_count
count-append [] t = sym (zero-add (line_count t))
count-append (b ∷ s) t =
    ap (λ k. digit (eqb b 10) + k) (count-append s t) ∙ sym (add_assoc (digit (eqb b 10)) (line_count s) (line_count t))

no-newline : (l : Letter) → digit (eqb (letter_byte l) 10) ≡ 0
no-newline I = refl
no-newline X = refl
no-newline Y = refl
no-newline Z = refl

letters-count : (n : ℕ) (f : ℕ → Letter) → line_count (tabulate n (λ q. letter_byte (f q))) ≡ 0
unfolding line_count tabulate
letters-count zero f = refl
letters-count (suc n) f = ap₂ ◌+◌ (no-newline (f 0)) (letters-count n (λ q. f (suc q)))

line-count : (n : ℕ) (p : Pauli) → line_count (string_line n p) ≡ 1
unfolding line_count string_line
line-count n p =
    ap₂ ◌+◌ (no_sign (sign_bit p.phase))
    (count-append (tabulate n (λ q. letter_byte (letter_at p q))) newline
    ∙ ap (λ k. k + 1) (letters-count n (letter_at p)))
  where
    no_sign : (b : Bool) → digit (eqb (sign_byte b) 10) ≡ 0
    no_sign false = refl
    no_sign true = refl

pub lines-count : (n m : ℕ) (R : ℕ → Pauli) → line_count (string_lines n m R) ≡ m
unfolding line_count string_lines
lines-count n zero R = refl
lines-count n (suc m) R =
    count-append (string_lines n m R) (string_line n (R m)) ∙ ap₂ ◌+◌ (lines-count n m R) (line-count n (R m)) ∙ add-one m
