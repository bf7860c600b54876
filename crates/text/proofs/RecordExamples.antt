-- The worked print of document 01 as a text that is read: its form and its lines; texts that do not have the form.
use mathlib.Core.Bool.{false, true}
use mathlib.Core.List.{◌++◌, List, [], ◌∷◌, map}
use mathlib.Core.Path.{◌≡◌, refl}
use Prim.Native.Nat.{ℕ, ◌+◌}
use lib.ListN.{replicate}
use Rattle.words.specs.Search.{every}
use Rattle.text.specs.Reading.{line_count}
use Rattle.text.specs.RecordTexts.{
  columns,
  from_line,
  hex_of,
  line_of,
  line_read,
  numbered_line,
  numbered_lines,
  qubit_count,
  record_form,
  record_lines_text,
  same_text,
}
use Rattle.text.specs.Text.{decimal, digits, hex_digit, hex_text, hex_value, record_names}

-- 15 zeros and a digit
abbrev word_text : ℕ → List ℕ
word_text d = replicate 15 48 ++ (48 + d) ∷ []

-- XX and ZZ: one edge, codes 0 and 8; the second code with two digits; the last line without its newline
abbrev bell : List ℕ → List ℕ → List ℕ
bell code end =
    record_names ++ 48 ∷ 32 ∷ 48 ∷ 32 ∷ word_text 2 ++ 32 ∷ 48 ∷ 10
    ∷ 49 ∷ 32 ∷ code ++ 32 ∷ word_text 1 ++ 32 ∷ 48 ∷ end

-- codes 8, 23, 99 and 08; no newline at the end; a byte behind it; no names; the names alone
forms : map record_form (bell (56 ∷ []) (10 ∷ []) ∷ bell (50 ∷ 51 ∷ []) (10 ∷ []) ∷ bell (57 ∷ 57 ∷ []) (10 ∷ [])
    ∷ bell (48 ∷ 56 ∷ []) (10 ∷ []) ∷ bell (56 ∷ []) [] ∷ bell (56 ∷ []) (10 ∷ 10 ∷ []) ∷ [] ∷ record_names ∷ [])
    ≡ true ∷ true ∷ true ∷ false ∷ false ∷ false ∷ false ∷ true ∷ []
unfolding record_form same_text record_lines_text numbered_lines numbered_line columns from_line line_of hex_of hex_value hex_text
    hex_digit decimal digits line_count every
forms = refl

lines : map (λ q. line_read (bell (56 ∷ []) (10 ∷ [])) q) (0 ∷ 1 ∷ [])
    ≡ record { code = 0; word = 2; used = false } ∷ record { code = 8; word = 1; used = false } ∷ []
unfolding numbered_line columns from_line line_of hex_of hex_value hex_text hex_digit decimal digits
lines = refl

counts : map qubit_count (bell (56 ∷ []) (10 ∷ []) ∷ record_names ∷ []) ≡ 2 ∷ 0 ∷ []
unfolding line_count
counts = refl
