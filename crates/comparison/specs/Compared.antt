-- The comparison of two lists: the codes that a choice induces between the reduced graphs, and the lines.
use Rattle.std.specs.Prelude.{Bool, not, ◌||◌, ◌++◌, List, [], ◌∷◌, ℕ, eqb}
use Rattle.buffers.specs.Refusals.{Refusal, bad_count, line, other_than}
use Rattle.clifford.specs.Clifford.{Clifford, inverse, then}
use Rattle.comparison.specs.Parts.{part_above}
use Rattle.pauli.specs.Pauli.{Pauli}
use Rattle.record.specs.Reduced.{reduced_code, reduced_graph}
use Rattle.stabilizer.specs.Lists.{GeneratorList, clashing, dependent, list_lengths, list_signs, list_stray, rows}
use Rattle.comparison.specs.Choices.{no_choice}

-- "at each qubit the first reduced record's code, then the choice's, then the inverse of the second's"; the
-- choice's alone at and above n, where the records have code 0
abbrev pub induced : ℕ → (ℕ → Pauli) → (ℕ → Pauli) → (ℕ → Clifford) → ℕ → Clifford
induced n rows others c q = then (then (reduced_code n rows q) (c q)) (inverse (reduced_code n others q))

-- ---- lines; "With two lists, of the numbers found in either the first in checking order is returned"
-- 2: "n is 0 or above 64, or the two lists' n differ"
abbrev pub bad_counts : GeneratorList → GeneratorList → Bool
bad_counts l m = bad_count l.n || (bad_count m.n || not (eqb l.n m.n))

-- 4: a list's buffer, the choice's or the complementation list's; "The list buffer is 96 bytes"
abbrev pub pair_lengths : GeneratorList → GeneratorList → List ℕ → List ℕ → Bool
pair_lengths l m chosen list = list_lengths l
    || (list_lengths m || (other_than l.n chosen || other_than 96 list))

-- 2 to 10 of the lists, and 4 of the buffers
abbrev pub pair_lines : GeneratorList → GeneratorList → List ℕ → List ℕ → List Refusal
pair_lines l m chosen list =
    line 2 (bad_counts l m) ∷ line 4 (pair_lengths l m chosen list)
    ∷ line 5 (list_stray l || list_stray m) ∷ line 6 (list_signs l || list_signs m)
    ∷ line 9 (clashing l.n (rows l) || clashing m.n (rows m))
    ∷ line 10 (dependent l.n (rows l) || dependent m.n (rows m)) ∷ []

-- 3: "a part exceeds 20", of the reduced graph of a list
abbrev pub has_large_part : GeneratorList → Bool
has_large_part l = part_above 20 l.n (reduced_graph l.n (rows l))

-- the lines of a comparison in checking order; 3 "is checked after 10"
abbrev pub compare_lines : GeneratorList → GeneratorList → List ℕ → List ℕ → List Refusal
compare_lines l m chosen list =
    pair_lines l m chosen list
    ++ (line 3 (has_large_part l || has_large_part m) ∷ line 13 (no_choice l.n (rows l) (rows m)) ∷ [])

-- the lines of a comparison of parts of any size: the same without 3
abbrev pub equivalent_lines : GeneratorList → GeneratorList → List ℕ → List ℕ → List Refusal
equivalent_lines l m chosen list =
    pair_lines l m chosen list ++ (line 13 (no_choice l.n (rows l) (rows m)) ∷ [])
