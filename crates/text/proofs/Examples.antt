-- The worked texts of document 01, at the definitions: the input, the output, a refusal, and the verdicts on
-- the input, on the empty text and on the names alone.
use mathlib.Core.Path.{◌≡◌, refl}
use mathlib.Core.Bool.{true}
use mathlib.Core.List.{List, [], ◌∷◌, ◌++◌}
use Prim.Native.Nat.{ℕ, ◌+◌}
use lib.ListN.{replicate}
use Rattle.words.specs.Bits.{bit}
use Rattle.text.specs.Text.{
  hex_digit,
  hex_text,
  hex_value,
  decimal,
  ListLine,
  line_text,
  lines_text,
  list_names,
  list_text,
}
use Rattle.text.specs.Text.{qubit_line, qubit_lines, record_text, refused_text}
use Rattle.text.specs.internal.Feeding.{fed_bytes}
use Rattle.text.specs.internal.Scan.{push, names_step, sign_step, z_step, x_step, one_more, scan_byte, begin}
use Rattle.text.specs.internal.Scan.{Reading, as_reading, feed, fed, verdict}
use Rattle.std.specs.Prelude.{Result, Ok, Err}

-- XX and ZZ
bell : List ListLine
bell = record { sign = 0; z = 0; x = 3 } ∷ record { sign = 0; z = 3; x = 0 } ∷ []

-- 15 zeros and a digit
abbrev word_text : ℕ → List ℕ
word_text d = replicate 15 48 ++ (48 + d) ∷ []

abbrev input : List ℕ
input =
    115 ∷ 105 ∷ 103 ∷ 110 ∷ 32 ∷ 122 ∷ 32 ∷ 120 ∷ 10
    ∷ 48 ∷ 32 ∷ word_text 0 ++ 32 ∷ word_text 3 ++ 10
    ∷ 48 ∷ 32 ∷ word_text 3 ++ 32 ∷ word_text 0 ++ 10 ∷ []

input-text : list_text bell ≡ input
unfolding bell hex_digit hex_text line_text lines_text list_text
input-text = refl

output-text : record_text 2 (2 ∷ 1 ∷ []) (0 ∷ 8 ∷ []) 0
    ≡ 113 ∷ 117 ∷ 98 ∷ 105 ∷ 116 ∷ 32 ∷ 99 ∷ 111 ∷ 100 ∷ 101 ∷ 32
    ∷ 110 ∷ 101 ∷ 105 ∷ 103 ∷ 104 ∷ 98 ∷ 111 ∷ 117 ∷ 114 ∷ 115 ∷ 32 ∷ 117 ∷ 115 ∷ 101 ∷ 100 ∷ 10
    ∷ 48 ∷ 32 ∷ 48 ∷ 32 ∷ word_text 2 ++ 32 ∷ 48 ∷ 10
    ∷ 49 ∷ 32 ∷ 56 ∷ 32 ∷ word_text 1 ++ 32 ∷ 48 ∷ 10 ∷ []
unfolding bit hex_digit hex_text decimal qubit_line qubit_lines record_text
output-text = refl

-- a used vertex: `0 6 0000000000000000 1`
used-line : qubit_line 0 6 0 true ≡ 48 ∷ 32 ∷ 54 ∷ 32 ∷ word_text 0 ++ 32 ∷ 49 ∷ 10 ∷ []
unfolding hex_digit hex_text decimal qubit_line
used-line = refl

-- "refused 10"
refusal-text : refused_text 10 ≡ 114 ∷ 101 ∷ 102 ∷ 117 ∷ 115 ∷ 101 ∷ 100 ∷ 32 ∷ 49 ∷ 48 ∷ 10 ∷ []
unfolding decimal refused_text
refusal-text = refl

-- the reading of a text, from empty buffers
reading_of : List ℕ → Reading
reading_of t = fed (as_reading begin (replicate 64 0) (replicate 64 0) (replicate 64 0)) t

judgement : List ℕ → Result ℕ ℕ
judgement t = verdict (reading_of t).scan

input-read : judgement input ≡ Ok 2
unfolding judgement reading_of verdict fed_bytes feed scan_byte names_step sign_step z_step x_step one_more hex_value push begin
input-read = refl

empty-read : judgement [] ≡ Err 0
unfolding judgement reading_of verdict fed_bytes begin
empty-read = refl

names-read : judgement list_names ≡ Ok 0
unfolding judgement reading_of verdict fed_bytes feed scan_byte names_step begin
names-read = refl
