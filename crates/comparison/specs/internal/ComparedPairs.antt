-- What the parts of the comparison answer: the reduced records of two lists, and the comparison of two records: what
-- only the proofs name.
use Rattle.std.specs.Prelude.{◌||◌, Bool, false, true, ◌++◌, List, [], ◌∷◌, ◌≡◌, ℕ, length}
use Rattle.buffers.specs.Buffers.{accepted, accepted_number, tabulate, written}
use Rattle.buffers.specs.Refusals.{Refusal, first_fitting, line}
use Rattle.comparison.specs.Choices.{least_code, no_choice}
use Rattle.comparison.specs.Parts.{part_above}
use Rattle.pauli.specs.Pauli.{Pauli}
use Rattle.record.specs.Lent.{code_numbers, neighbour_words}
use Rattle.record.specs.Reduced.{reduced, reduced_graph}
use Rattle.stabilizer.specs.Groups.{Proper}
use Rattle.comparison.specs.ComparedPairs.{compare_list}

-- buffers that hold the reduced record of these rows
pub record HoldsReduced (n : ℕ) (R : ℕ → Pauli) (neighbours codes : List ℕ) : Type 0 where
  pub proper : Proper n R
  pub words : neighbours ≡ neighbour_words n (reduced n R)
  pub numbers : codes ≡ code_numbers n (reduced n R)

-- line 3, where the comparison has a limit
abbrev pub limit_lines : Bool → Bool → List Refusal
limit_lines true large = line 3 large ∷ []
limit_lines false large = []

-- where there is a limit, 3 where a part of either reduced graph exceeds 20; then 13
abbrev pub part_lines : Bool → ℕ → (ℕ → Pauli) → (ℕ → Pauli) → List Refusal
part_lines limited n rows others =
    limit_lines limited (part_above 20 n (reduced_graph n rows) || part_above 20 n (reduced_graph n others))
    ++ (line 13 (no_choice n rows others) ∷ [])

-- 3 where a part is too large, 13 where no choice works, else the least choice, the complementation list and its count
pub record PairAnswered (limited : Bool) (n : ℕ) (rows others : ℕ → Pauli) (choice list : List ℕ) (count r : ℕ)
    (choice' list' : List ℕ) (count' : ℕ) : Type 0 where
  pub number : r ≡ first_fitting (part_lines limited n rows others)
  pub codes : choice' ≡ accepted r (tabulate n (least_code n rows others)) choice
  pub vertices : list' ≡ accepted r (written (compare_list n rows others) list) list
  pub amount : count' ≡ accepted_number r (length (compare_list n rows others)) count
