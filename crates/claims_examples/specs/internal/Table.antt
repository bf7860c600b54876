-- Document 01's examples with a star, those of the request on products, and least choices on one qubit: what the
-- definitions give, beside what the text says.
use Rattle.std.specs.Prelude.{◌++◌, List, [], ◌∷◌, ℕ, replicate}
use Rattle.buffers.specs.Buffers.{tabulate}
use Rattle.buffers.specs.Refusals.{first_fitting}
use Rattle.claims.specs.SessionDemand.{list_in}
use Rattle.clifford.specs.Clifford.{clifford_of, code_of, inverse, then}
use Rattle.comparison.specs.Choices.{least_code}
use Rattle.comparison.specs.Compared.{compare_lines}
use Rattle.comparison.specs.ComparedPairs.{compare_list}
use Rattle.image.specs.Image.{image_graph, image_lines, image_minus}
use Rattle.image.specs.Rule.{image_list}
use Rattle.record.specs.Lent.{code_numbers, held_record, LentRecord, lent_record, neighbour_words}
use Rattle.record.specs.Reduced.{reduced}
use Rattle.stabilizer.specs.Lists.{GeneratorList, rows}
use Rattle.pauli.specs.Pauli.{exponent}
use Rattle.calls.specs.Products.{chosen_product, product_lines}
use Rattle.calls.specs.Lists.{check_lines}
use Rattle.words.specs.Bits.{digit, word_of}
use Rattle.claims_examples.specs.internal.Examples.{Example, example}

-- codes by number: first a, then b; the inverse
abbrev composed : ℕ → ℕ → ℕ
composed a b = code_of (then (clifford_of a) (clifford_of b))

abbrev inverse_code : ℕ → ℕ
inverse_code a = code_of (inverse (clifford_of a))

-- the number, the neighbour words and the codes that a list reduces to
abbrev reduces : GeneratorList → List ℕ
reduces l =
    first_fitting (check_lines l)
    ∷ (neighbour_words l.n (reduced l.n (rows l)) ++ code_numbers l.n (reduced l.n (rows l)))

-- the number, the image graph, its minus signs and the list of complementations
abbrev images : LentRecord → List ℕ
images l =
    first_fitting (image_lines l (replicate l.n 0) (replicate l.n 0) (replicate 96 0))
    ∷ (tabulate l.n (λ j. word_of l.n (image_graph l.n (held_record l) j))
    ++ (tabulate l.n (λ j. digit (image_minus l.n (held_record l) j)) ++ image_list l.n (held_record l)))

-- the number alone
abbrev image_number : LentRecord → List ℕ
image_number l = first_fitting (image_lines l (replicate l.n 0) (replicate l.n 0) (replicate 96 0)) ∷ []

-- the number, the words of the product of the rows that the word chooses, and its power of i
abbrev multiplies : GeneratorList → ℕ → List ℕ
multiplies l chosen =
    first_fitting (product_lines l chosen) ∷ word_of l.n (chosen_product l chosen).z
    ∷ word_of l.n (chosen_product l chosen).x ∷ exponent (chosen_product l chosen).phase ∷ []

-- the number, the least choice and the complementation list of two lists
abbrev compares : GeneratorList → GeneratorList → List ℕ
compares l m =
    first_fitting (compare_lines l m (replicate l.n 0) (replicate 96 0))
    ∷ (tabulate l.n (least_code l.n (rows l) (rows m)) ++ compare_list l.n (rows l) (rows m))

-- one generator on one qubit
abbrev one : ℕ → ℕ → ℕ → GeneratorList
one s z x = list_in 1 (s ∷ []) (z ∷ []) (x ∷ [])

abbrev record_with : ℕ → List ℕ → List ℕ → LentRecord
record_with n neighbours codes = lent_record n neighbours codes

abbrev pub table : List (Example (List ℕ))
table =
    -- 8 then 8 is 0; 4 then 4 is 2; 8 then 4 is 20; 4 then 8 is 18; the inverse of 12 is 13
    example (composed 8 8 ∷ composed 4 4 ∷ composed 8 4 ∷ composed 4 8 ∷ inverse_code 12 ∷ [])
    (0 ∷ 2 ∷ 20 ∷ 18 ∷ 13 ∷ [])
    -- XX, ZZ: one edge, codes 0, 8; -XX, ZZ: codes 2, 8; XX, -YY: as XX, ZZ
    ∷ example (reduces (list_in 2 (0 ∷ 0 ∷ []) (0 ∷ 3 ∷ []) (3 ∷ 0 ∷ []))) (0 ∷ 2 ∷ 1 ∷ 0 ∷ 8 ∷ [])
    ∷ example (reduces (list_in 2 (1 ∷ 0 ∷ []) (0 ∷ 3 ∷ []) (3 ∷ 0 ∷ []))) (0 ∷ 2 ∷ 1 ∷ 2 ∷ 8 ∷ [])
    ∷ example (reduces (list_in 2 (0 ∷ 1 ∷ []) (0 ∷ 3 ∷ []) (3 ∷ 3 ∷ []))) (0 ∷ 2 ∷ 1 ∷ 0 ∷ 8 ∷ [])
    -- one qubit: +Y gives code 4; -Z gives 10
    ∷ example (reduces (list_in 1 (0 ∷ []) (1 ∷ []) (1 ∷ []))) (0 ∷ 0 ∷ 4 ∷ [])
    ∷ example (reduces (list_in 1 (1 ∷ []) (1 ∷ []) (0 ∷ []))) (0 ∷ 0 ∷ 10 ∷ [])
    -- star with centre 0 and leaves 1, 2, codes 12, 4, 4: triangle, no minus signs, list 0
    ∷ example (images (record_with 3 (6 ∷ 1 ∷ 1 ∷ []) (12 ∷ 4 ∷ 4 ∷ []))) (0 ∷ 6 ∷ 5 ∷ 3 ∷ 0 ∷ 0 ∷ 0 ∷ 0 ∷ [])
    -- one edge, codes 8, 8: the same edge, list 0, 1, 0
    ∷ example (images (record_with 2 (2 ∷ 1 ∷ []) (8 ∷ 8 ∷ []))) (0 ∷ 2 ∷ 1 ∷ 0 ∷ 0 ∷ 0 ∷ 1 ∷ 0 ∷ [])
    -- one qubit, code 8: refusal 11; code 4: refusal 12
    ∷ example (image_number (record_with 1 (0 ∷ []) (8 ∷ []))) (11 ∷ [])
    ∷ example (image_number (record_with 1 (0 ∷ []) (4 ∷ []))) (12 ∷ [])
    -- of the request on products: XY = iZ, YX = -iZ; of two qubits with the rows XI, -YI
    ∷ example (multiplies (list_in 2 (0 ∷ 0 ∷ []) (0 ∷ 1 ∷ []) (1 ∷ 1 ∷ [])) 3) (0 ∷ 1 ∷ 0 ∷ 1 ∷ [])
    ∷ example (multiplies (list_in 2 (0 ∷ 0 ∷ []) (1 ∷ 0 ∷ []) (1 ∷ 1 ∷ [])) 3) (0 ∷ 1 ∷ 0 ∷ 3 ∷ [])
    ∷ example (multiplies (list_in 2 (0 ∷ 1 ∷ []) (0 ∷ 1 ∷ []) (1 ∷ 1 ∷ [])) 3) (0 ∷ 1 ∷ 0 ∷ 3 ∷ [])
    -- least choices on one qubit: +Y to +X is 5, +X to +Y is 4; +Z to +Y is 12, with the list 0; +X to -X is 2
    ∷ example (compares (one 0 1 1) (one 0 0 1)) (0 ∷ 5 ∷ [])
    ∷ example (compares (one 0 0 1) (one 0 1 1)) (0 ∷ 4 ∷ [])
    ∷ example (compares (one 0 1 0) (one 0 1 1)) (0 ∷ 12 ∷ 0 ∷ [])
    ∷ example (compares (one 0 0 1) (one 1 0 1)) (0 ∷ 2 ∷ [])
    ∷ []
