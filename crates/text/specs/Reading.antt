-- A text of Pauli strings by position: whether it has the form, and the generator list that it stands for.
use Rattle.std.specs.Prelude.{◌&&◌, Bool, cond, not, ◌||◌, ◌++◌, List, [], ◌∷◌, ◌*◌, ◌+◌, suc, ℕ, eqb, get_or, length}
use Rattle.buffers.specs.Refusals.{Refusal, bad_count, line, other_than}
use Rattle.pauli.specs.Pauli.{Pauli, minus, x_bit, z_bit}
use Rattle.pauli.specs.declared.Letter.{Letter}
use Rattle.pauli.specs.declared.Letter.TheVariants.{I, X, Y, Z}
use Rattle.stabilizer.specs.Lists.{GeneratorList, clashing, dependent, list_lines, list_of, rows}
use Rattle.words.specs.Bits.{digit}
use Rattle.words.specs.Search.{every}
use Rattle.text.specs.Strings.{text_size}

-- how many of the bytes end a line
unfoldable pub line_count : List ℕ → ℕ
line_count [] = 0
line_count (b ∷ t) = digit (eqb b 10) + line_count t

-- the byte in column c of line j, where lines have n letters
abbrev pub byte_at : ℕ → List ℕ → ℕ → ℕ → ℕ
byte_at n t j c = get_or t (j * (n + 2) + c) 0

-- ---- the form
-- "a plus or an ASCII hyphen for minus"
abbrev pub is_sign : ℕ → Bool
is_sign b = eqb b 43 || eqb b 45

-- "letters of I, X, Y, Z"
abbrev pub is_letter : ℕ → Bool
is_letter b = (eqb b 73 || eqb b 88) || (eqb b 89 || eqb b 90)

-- a line by its columns: a sign, n letters, a newline
unfoldable pub line_fits : ℕ → (ℕ → ℕ) → Bool
line_fits n byte = is_sign (byte 0) && (every n (λ q. is_letter (byte (suc q))) && eqb (byte (suc n)) 10)

-- as many lines as newlines, and as many letters in each
unfoldable pub string_form : List ℕ → Bool
string_form t =
    eqb (length t) (text_size (line_count t))
    && every (line_count t) (λ j. line_fits (line_count t) (byte_at (line_count t) t j))

-- ---- the list
-- the letter of a byte; I where it is none of the others
abbrev pub letter_of : ℕ → Letter
letter_of b = cond (eqb b 88) X (cond (eqb b 89) Y (cond (eqb b 90) Z I))

-- the row that a line stands for, by its columns; the letter of qubit q stands in column q + 1
abbrev pub row_of : (ℕ → ℕ) → Pauli
row_of byte =
    record {
      phase = minus (eqb (byte 0) 45);
      z = λ q. z_bit (letter_of (byte (suc q)));
      x = λ q. x_bit (letter_of (byte (suc q)));
    }

-- "Reading such a text gives the generator list"
abbrev pub string_list : List ℕ → GeneratorList
string_list t = list_of (line_count t) (λ j. row_of (byte_at (line_count t) t j))

-- ---- lines in checking order
-- reading: "Lines of unequal length, a count of lines unlike the count of letters, other characters or a missing
-- newline give 1; an empty text gives 2. 01's checks follow from 2 on." The three buffers have a place for each line
abbrev pub formed_lines : List ℕ → List ℕ → List ℕ → List ℕ → List Refusal
formed_lines t signs z x =
    line 1 (not (string_form t)) ∷ line 2 (bad_count (line_count t))
    ∷ line 4 (other_than (line_count t) signs || (other_than (line_count t) z || other_than (line_count t) x)) ∷ []

-- of the list that is read; 5 and 6 hold of none
abbrev pub judged_lines : GeneratorList → List Refusal
judged_lines l = line 9 (clashing l.n (rows l)) ∷ line 10 (dependent l.n (rows l)) ∷ []

-- 1, 2, 4, 9, 10
abbrev pub read_lines : List ℕ → List ℕ → List ℕ → List ℕ → List Refusal
read_lines t signs z x = formed_lines t signs z x ++ judged_lines (string_list t)

-- writing: the list's lines; the buffer has the bytes of the text
abbrev pub write_lines : GeneratorList → List ℕ → List Refusal
write_lines l text = list_lines l (other_than (text_size l.n) text)
