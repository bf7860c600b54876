-- The lines of a record's text: how many newlines they have, and the text up to and from each line.
use mathlib.Core.Bool.{Bool, false, true}
use mathlib.Core.List.{◌++◌, List, [], ◌∷◌, append_assoc, append-nil}
use mathlib.Core.Path.{ap, ap₂, refl, subst, sym, ◌∙◌, ◌≡◌}
use Prim.Native.Nat.{◌%◌, ◌+◌, ◌-◌, ◌/◌, ◌<◌, suc, zero, ℕ, ◌≤◌}
use native.Mathlib.Nat.{add-suc, add-zero}
use native.Mathlib.Omega.{arith}
use lib.Dec.{ltb}
use lib.ListN.{length, length-append}
use borrow.Author.Tests.{ne_eqb}
use Rattle.words.proofs.Flags.{by-test}
use Rattle.words.specs.Bits.{digit}
use Rattle.text.proofs.NumeralLaws.{digits-count, no_digit, numeral-decimal}
use Rattle.text.proofs.RecordLaws.{line-columns}
use Rattle.text.proofs.TextLaws.{count-append}
use Rattle.text.specs.Reading.{line_count}
use Rattle.text.specs.RecordTexts.{columns, numbered_line, numbered_lines, numeral, record_lines_text}
use Rattle.text.specs.Text.{decimal, hex_digit, hex_text, qubit_line, qubit_lines, record_names, record_text, space}
use Rattle.text.specs.Text.{used_column}
use Rattle.text.specs.declared.records.RecordLine.{RecordLine}
use Rattle.text.specs.internal.Text.{line_held}

module _ (L : ℕ → RecordLine) where
  -- one line more
  pub text-more : (q : ℕ) → record_lines_text (suc q) L ≡ record_lines_text q L ++ numbered_line q (L q)
  unfolding record_lines_text numbered_lines
  text-more q = sym (append_assoc record_names (numbered_lines q L) (numbered_line q (L q)))

  -- the text of n lines is that of the first q and what follows them
  pub record Split (q n : ℕ) : Type 0 where
    pub rest : List ℕ
    pub text : record_lines_text n L ≡ record_lines_text q L ++ rest

  split-add : (q d : ℕ) → Split q (q + d)
  split-add q zero =
      record { rest = []; text = ap (λ n. record_lines_text n L) (add-zero q) ∙ sym (append-nil (record_lines_text q L)) }
  split-add q (suc d) =
      let S = split-add q d in
      record {
        rest = S.rest ++ numbered_line (q + d) (L (q + d));
        text = ap (λ n. record_lines_text n L) (add-suc q d) ∙ text-more (q + d)
            ∙ ap (λ t. t ++ numbered_line (q + d) (L (q + d))) S.text
            ∙ append_assoc (record_lines_text q L) S.rest (numbered_line (q + d) (L (q + d)));
      }

  pub text-split : {q n : ℕ} → q ≤ n → Split q n
  text-split {q} {n} l = subst (Split q) (omega (arith, l)) (split-add q (n - q))

  -- fewer lines are no longer
  pub text-longer : {q n : ℕ} → q ≤ n → length (record_lines_text q L) ≤ length (record_lines_text n L)
  text-longer {q} {n} l =
      let S = text-split l in
      omega (arith, ap length S.text, length-append (record_lines_text q L) S.rest)

  -- a text of more lines goes on with the next one
  pub record Next (q n : ℕ) : Type 0 where
    pub rest : List ℕ
    pub text : record_lines_text n L ≡ record_lines_text q L ++ (numbered_line q (L q) ++ rest)

  pub text-next : {q n : ℕ} → q < n → Next q n
  text-next {q} {n} l =
      let S = text-split {q = suc q} {n = n} l in
      record {
        rest = S.rest;
        text = S.text ∙ ap (λ t. t ++ S.rest) (text-more q)
            ∙ append_assoc (record_lines_text q L) (numbered_line q (L q)) S.rest;
      }

same_lines : (n : ℕ) (L M : ℕ → RecordLine) → ((q : ℕ) → q < n → L q ≡ M q) → numbered_lines n L ≡ numbered_lines n M
unfolding numbered_lines
same_lines zero L M h = refl
same_lines (suc n) L M h =
    ap₂ ◌++◌ (same_lines n L M (λ q l. h q (omega arith))) (ap (numbered_line n) (h n (omega arith)))

-- lines that agree
pub same_text_lem : (n : ℕ) (L M : ℕ → RecordLine) → ((q : ℕ) → q < n → L q ≡ M q) →
    record_lines_text n L ≡ record_lines_text n M
unfolding record_lines_text
same_text_lem n L M h = ap (λ t. record_names ++ t) (same_lines n L M h)

-- ---- newlines
hex-count : (k w : ℕ) → line_count (hex_text k w) ≡ 0
unfolding hex_text hex_digit line_count
hex-count zero w = refl
hex-count (suc k) w =
    count-append (hex_text k (w / 16)) (hex_digit (w % 16) ∷ [])
    ∙ ap₂ ◌+◌ (hex-count k (w / 16))
    (by-test (λ b. line_count (b ∷ []) ≡ 0) (ltb (w % 16) 10) (48 + w % 16) (87 + w % 16)
    (λ e. no_digit (w % 16)) (λ e. ap (λ b. digit b + 0) (ne_eqb (87 + w % 16) 10 (λ e. absurd (omega (arith, e))))))

decimal-count : (v : ℕ) → line_count (decimal v) ≡ 0
unfolding decimal line_count
decimal-count v =
    by-test (λ l. line_count l ≡ 0) (ltb v 10) ((48 + v) ∷ []) ((48 + v / 10) ∷ (48 + v % 10) ∷ [])
    (λ e. no_digit v)
    (λ e. count-append ((48 + v / 10) ∷ []) ((48 + v % 10) ∷ []) ∙ ap₂ ◌+◌ (no_digit (v / 10)) (no_digit (v % 10)))

used-count : (u : Bool) → line_count (used_column u) ≡ 1
unfolding line_count
used-count false = refl
used-count true = refl

pub line-newline : (q : ℕ) (l : RecordLine) → line_count (numbered_line q l) ≡ 1
unfolding numbered_line columns line_count
line-newline q l =
    let fields = decimal l.code ++ space in
    count-append (numeral q ++ space) (fields ++ hex_text 16 l.word ++ used_column l.used)
    ∙ ap₂ ◌+◌ (count-append (numeral q) space ∙ ap (λ k. k + line_count space) (digits-count (suc q) q))
    (count-append (fields ++ hex_text 16 l.word) (used_column l.used)
    ∙ ap₂ ◌+◌ (count-append fields (hex_text 16 l.word)
    ∙ ap₂ ◌+◌ (count-append (decimal l.code) space ∙ ap (λ k. k + line_count space) (decimal-count l.code))
    (hex-count 16 l.word))
    (used-count l.used))
    ∙ spaces
  where
    spaces : (0 + line_count space) + (((0 + line_count space) + 0) + 1) ≡ 1
    spaces = refl

pub lines-counted : (n : ℕ) (L : ℕ → RecordLine) → line_count (record_lines_text n L) ≡ suc n
unfolding record_lines_text numbered_lines line_count
lines-counted zero L = refl
lines-counted (suc n) L =
    ap line_count (text-more L n) ∙ count-append (record_lines_text n L) (numbered_line n (L n))
    ∙ ap₂ ◌+◌ (lines-counted n L) (line-newline n (L n)) ∙ omega arith

-- ---- the print of a record
print-row : (q : ℕ) (l : RecordLine) → q < 100 →
    qubit_line q l.code l.word l.used ≡ numbered_line q l
unfolding numbered_line
print-row q l few = sym (line-columns q l) ∙ ap (λ t. (t ++ space) ++ columns l) (sym (numeral-decimal q few))

print-rows : (n : ℕ) (nb cs : List ℕ) (used : ℕ) → n ≤ 100 →
    qubit_lines n nb cs used ≡ numbered_lines n (line_held nb cs used)
unfolding qubit_lines numbered_lines
print-rows zero nb cs used few = refl
print-rows (suc n) nb cs used few =
    ap₂ ◌++◌ (print-rows n nb cs used (omega arith)) (print-row n (line_held nb cs used n) (omega arith))

pub print-lines : (n : ℕ) (nb cs : List ℕ) (used : ℕ) → n ≤ 100 →
    record_text n nb cs used ≡ record_lines_text n (line_held nb cs used)
unfolding record_text record_lines_text
print-lines n nb cs used few = ap (λ t. record_names ++ t) (print-rows n nb cs used few)
