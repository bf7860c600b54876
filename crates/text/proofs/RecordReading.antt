-- A line of a record's text read back: the columns of a print give what was printed, and whatever is read has its form.
use mathlib.Core.Bool.{Bool, cond, false, true}
use mathlib.Core.List.{◌++◌, List, [], ◌∷◌, append_assoc}
use mathlib.Core.Path.{ap, ap₂, refl, subst, sym, ◌∙◌, ◌≡◌}
use Prim.Native.Nat.{◌%◌, ◌*◌, ◌+◌, ◌/◌, ◌<◌, ◌^◌, suc, zero, ℕ}
use native.Mathlib.Nat.{pow-suc}
use native.Mathlib.Omega.{arith}
use lib.Dec.{eqb, ltb}
use lib.ListN.{get_or}
use lib.Seq.{append_snoc, get_or-append-add, get_or_at}
use borrow.Author.Tests.{le-ltb, lt-ltb, ltb-true, ne_eqb}
use Rattle.words.proofs.Flags.{by-test}
use Rattle.words.specs.Bits.{digit}
use Rattle.text.proofs.DigitLaws.{fewer_digits, value-digit}
use Rattle.text.proofs.HexLaws.{length-hex}
use Rattle.text.specs.RecordTexts.{
  LineFits,
  columns,
  decimal_value,
  hex_of,
  line_at,
  line_behind,
  line_of,
  numbered_line,
  numeral,
}
use Rattle.text.specs.Text.{decimal, hex_digit, hex_text, hex_value, space, used_column}
use Rattle.text.specs.declared.records.RecordLine.{RecordLine}

-- ---- words
pub hex-cong : (k : ℕ) (f g : ℕ → ℕ) → ((c : ℕ) → f c ≡ g c) → hex_of k f ≡ hex_of k g
hex-cong k f g h = ap (hex_of k) (λ i c. h c i)

pub hex-read : (k w : ℕ) (X : List ℕ) → w < 16 ^ k → hex_of k (λ c. get_or (hex_text k w ++ X) c 0) ≡ w
unfolding hex_of hex_text
hex-read zero w X small = omega arith
hex-read (suc k) w X small =
    let d = hex_digit (w % 16) in
    ap₂ (λ a b. a * 16 + hex_value b % 16)
    (hex-cong k _ _ (λ c. ap (λ l. get_or l c 0) (append_snoc (hex_text k (w / 16)) d X))
    ∙ hex-read k (w / 16) (d ∷ X) (fewer_digits k w small))
    (ap (λ l. get_or l k 0) (append_snoc (hex_text k (w / 16)) d X)
    ∙ get_or_at (hex_text k (w / 16)) d X 0 k (length-hex k (w / 16)))
    ∙ ap (λ v. w / 16 * 16 + v % 16) (value-digit (w % 16) (omega arith)) ∙ omega arith

pub hex-below : (k : ℕ) (byte : ℕ → ℕ) → hex_of k byte < 16 ^ k
unfolding hex_of
hex-below zero byte = omega arith
hex-below (suc k) byte =
    subst (λ n. hex_of k byte * 16 + hex_value (byte k) % 16 < n) (sym (pow-suc 16 k))
    (omega (arith, hex-below k byte))

-- ---- the columns behind a code
used-read : (u : Bool) → eqb (48 + digit u) 49 ≡ u
used-read false = refl
used-read true = refl

behind : (code w : ℕ) (u : Bool) (R : List ℕ) → w < 2 ^ 64 →
    line_behind code (λ c. get_or (hex_text 16 w ++ (used_column u ++ R)) c 0)
    ≡ record { code = code; word = w; used = u }
behind code w u R small =
    let word = hex-read 16 w (used_column u ++ R) small in
    let used : eqb (get_or (hex_text 16 w ++ (used_column u ++ R)) 17 0) 49 ≡ u =
    ap (λ k. eqb (get_or (hex_text 16 w ++ (used_column u ++ R)) (k + 1) 0) 49) (sym (length-hex 16 w))
    ∙ ap (λ b. eqb b 49) (get_or-append-add (hex_text 16 w) (used_column u ++ R) 1 0) ∙ used-read u
    in
    λ i. record { code = code; word = word i; used = used i }

digit-read : (d : ℕ) → d < 10 → decimal_value (48 + d) ≡ d
unfolding hex_value
digit-read d small =
    simp (le-ltb (48 + d) 48 (omega arith), lt-ltb (48 + d) 58 (omega arith)) (omega arith)

-- ---- a whole line
-- the bytes of the columns, for each size of the code
columns-apart : (l : RecordLine) (R : List ℕ) →
    columns l ++ R ≡ decimal l.code ++ (32 ∷ (hex_text 16 l.word ++ (used_column l.used ++ R)))
unfolding columns
columns-apart l R =
    let code = decimal l.code in
    let word = hex_text 16 l.word in
    append_assoc (code ++ space ++ word) (used_column l.used) R
    ∙ append_assoc (code ++ space) word (used_column l.used ++ R)
    ∙ append_assoc code space (word ++ (used_column l.used ++ R))

pub columns-read : (l : RecordLine) → LineFits l → (R : List ℕ) → line_of (λ c. get_or (columns l ++ R) c 0) ≡ l
unfolding line_of decimal
columns-read l fit R =
    ap (λ t. line_of (λ c. get_or t c 0)) (columns-apart l R)
    ∙ by-test (λ d. line_of (λ c. get_or (d ++ 32 ∷ rest) c 0) ≡ l) (ltb l.code 10) ((48 + l.code) ∷ [])
    ((48 + l.code / 10) ∷ (48 + l.code % 10) ∷ [])
    (λ e. ap (λ k. line_behind k (λ c. get_or rest c 0)) (digit-read l.code (ltb-true l.code 10 e)) ∙ whole)
    (λ e. ap (λ t. cond t (line_behind (decimal_value (48 + l.code / 10)) (λ c. get_or (32 ∷ rest) c 0))
    (line_behind (10 * decimal_value (48 + l.code / 10) + decimal_value (48 + l.code % 10)) (λ c. get_or rest c 0)))
    (ne_eqb (48 + l.code % 10) 32 (λ z. absurd (omega (arith, z))))
    ∙ ap (λ k. line_behind k (λ c. get_or rest c 0))
    (ap₂ (λ a b. 10 * a + b) (digit-read (l.code / 10) (omega (arith, fit.code)))
    (digit-read (l.code % 10) (omega arith))
    ∙ omega arith)
    ∙ whole)
  where
    rest : List ℕ
    rest = hex_text 16 l.word ++ (used_column l.used ++ R)

    whole : line_behind l.code (λ c. get_or rest c 0) ≡ l
    whole = behind l.code l.word l.used R fit.word

-- the line at the start of a text
pub line-back : (q : ℕ) (l : RecordLine) → LineFits l → (R : List ℕ) → line_at q (numbered_line q l ++ R) ≡ l
unfolding numbered_line
line-back q l fit R =
    ap (λ t. line_at q t) (append_assoc (numeral q ++ space) (columns l) R)
    ∙ (λ i. line_of (λ c. get_or-append-add (numeral q ++ space) (columns l ++ R) c 0 i))
    ∙ columns-read l fit R

-- what is read fits, whatever the bytes are
pub read_fits : (byte : ℕ → ℕ) → LineFits (line_of byte)
unfolding line_of
read_fits byte =
    by-test LineFits (eqb (byte 1) 32) (line_behind (decimal_value (byte 0)) (λ c. byte (suc (suc c))))
    (line_behind (10 * decimal_value (byte 0) + decimal_value (byte 1)) (λ c. byte (suc (suc (suc c)))))
    (λ e. record { code = omega arith; word = hex-below 16 (λ c. byte (suc (suc c))) })
    (λ e. record { code = omega arith; word = hex-below 16 (λ c. byte (suc (suc (suc c)))) })
