-- The worked texts of the request, at the definitions: the texts of lists, and the numbers and lists of texts.
use mathlib.Core.List.{List, [], map, ◌++◌, ◌∷◌}
use mathlib.Core.Path.{refl, ◌≡◌}
use Prim.Native.Nat.{ℕ}
use lib.ListN.{replicate}
use Rattle.buffers.specs.Buffers.{tabulate}
use Rattle.buffers.specs.Refusals.{first_fitting, reaching}
use Rattle.pauli.specs.Pauli.{anticommute, mul}
use Rattle.stabilizer.specs.Lists.{GeneratorList, clashing, dependent, rows}
use Rattle.words.specs.Bits.{bit, fold, word_of}
use Rattle.words.specs.Search.{every, some}
use Rattle.text.specs.Reading.{line_count, line_fits, read_lines, string_form, string_list, write_lines}
use Rattle.text.specs.Strings.{string_line, string_lines, strings_text}

abbrev list : ℕ → List ℕ → List ℕ → List ℕ → GeneratorList
list n s z x = record { n = n; signs = s; z = z; x = x }

-- the number of a text that is read into buffers of k places
abbrev read_into : ℕ → List ℕ → ℕ
read_into k t = first_fitting (read_lines t (replicate k 0) (replicate k 0) (replicate k 0))

abbrev written : GeneratorList → List ℕ
written l = strings_text l.n (rows l)

-- XX and -ZZ; -Y
abbrev bell : GeneratorList
bell = list 2 (0 ∷ 1 ∷ []) (0 ∷ 3 ∷ []) (3 ∷ 0 ∷ [])

abbrev bell_text : List ℕ
bell_text = 43 ∷ 88 ∷ 88 ∷ 10 ∷ 45 ∷ 90 ∷ 90 ∷ 10 ∷ []

minus-y : List ℕ
minus-y = 45 ∷ 89 ∷ 10 ∷ []

-- XI and -ZY: the leftmost letter is qubit 0
written-texts : map written (bell ∷ list 1 (1 ∷ []) (1 ∷ []) (1 ∷ [])
    ∷ list 2 (0 ∷ 1 ∷ []) (0 ∷ 3 ∷ []) (1 ∷ 2 ∷ []) ∷ [])
    ≡ bell_text ∷ minus-y ∷ (43 ∷ 88 ∷ 73 ∷ 10 ∷ 45 ∷ 90 ∷ 89 ∷ 10 ∷ []) ∷ []
unfolding minus-y string_line string_lines tabulate bit
written-texts = refl

lists-read : map string_list (bell_text ∷ minus-y ∷ (43 ∷ 88 ∷ 73 ∷ 10 ∷ 45 ∷ 90 ∷ 89 ∷ 10 ∷ []) ∷ [])
    ≡ bell ∷ list 1 (1 ∷ []) (1 ∷ []) (1 ∷ []) ∷ list 2 (0 ∷ 1 ∷ []) (0 ∷ 3 ∷ []) (1 ∷ 2 ∷ []) ∷ []
unfolding minus-y line_count tabulate word_of
lists-read = refl

-- the empty text; a newline alone; + and a newline; +X without a newline
short-texts : map (read_into 1) ([] ∷ (10 ∷ []) ∷ (43 ∷ 10 ∷ []) ∷ (43 ∷ 88 ∷ []) ∷ []) ≡ 2 ∷ 1 ∷ 1 ∷ 1 ∷ []
unfolding first_fitting string_form line_count every
short-texts = refl

-- one qubit: +I; -Y; +x; a carriage return; a blank last line
one-qubit : map (read_into 1) ((43 ∷ 73 ∷ 10 ∷ []) ∷ minus-y ∷ (43 ∷ 120 ∷ 10 ∷ []) ∷ (43 ∷ 88 ∷ 13 ∷ 10 ∷ [])
    ∷ (43 ∷ 88 ∷ 10 ∷ 10 ∷ []) ∷ []) ≡ 10 ∷ 0 ∷ 1 ∷ 1 ∷ 1 ∷ []
unfolding minus-y first_fitting string_form line_fits line_count every some clashing dependent anticommute fold mul bit
    word_of tabulate
one-qubit = refl

-- two qubits: +XX, -ZZ; +XX, -XX; +XI, +ZI; and the first into buffers of three places
two-qubits : map (read_into 2) (bell_text ∷ (43 ∷ 88 ∷ 88 ∷ 10 ∷ 45 ∷ 88 ∷ 88 ∷ 10 ∷ [])
    ∷ (43 ∷ 88 ∷ 73 ∷ 10 ∷ 43 ∷ 90 ∷ 73 ∷ 10 ∷ []) ∷ []) ++ read_into 3 bell_text ∷ [] ≡ 0 ∷ 10 ∷ 9 ∷ 4 ∷ []
unfolding first_fitting string_form line_fits line_count every some clashing dependent anticommute fold mul bit word_of
    tabulate
two-qubits = refl

-- writing into 8 and into 9 bytes
written-into : first_fitting (write_lines bell (replicate 8 0)) ∷ first_fitting (write_lines bell (replicate 9 0)) ∷ []
    ≡ 0 ∷ 4 ∷ []
unfolding first_fitting reaching some every clashing dependent anticommute fold mul bit
written-into = refl
