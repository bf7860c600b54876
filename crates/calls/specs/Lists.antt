-- What each public call on lists promises, for all arguments: its lines in checking order, and the buffers lent for its
-- answer. A name with a prime is what the buffer holds at exit.
use Rattle.std.specs.Prelude.{false, ◌||◌, List, [], ◌∷◌, ℕ}
use Rattle.buffers.specs.Refusals.{Refusal, other_than}
use Rattle.buffers.specs.Calls.{Contract, Lent, buffer, contract_of, number}
use Rattle.record.specs.Lent.{code_numbers, neighbour_words}
use Rattle.record.specs.Reduced.{reduced}
use Rattle.stabilizer.specs.Lists.{GeneratorList, list_lines, rows}

-- ---- lines in checking order
abbrev pub check_lines : GeneratorList → List Refusal
check_lines l = list_lines l false

-- with the two buffers lent for the answer
abbrev pub reduce_lines : GeneratorList → List ℕ → List ℕ → List Refusal
reduce_lines l neighbours codes = list_lines l (other_than l.n neighbours || other_than l.n codes)

-- ---- sukhlent_check
abbrev pub check_call : GeneratorList → Contract
check_call l = contract_of (check_lines l) []

-- the reduced record of the list
abbrev pub reduce_lent : GeneratorList → List ℕ → List ℕ → List ℕ → List ℕ → List Lent
reduce_lent l neighbours codes neighbours' codes' =
    buffer neighbours (neighbour_words l.n (reduced l.n (rows l))) neighbours'
    ∷ buffer codes (code_numbers l.n (reduced l.n (rows l))) codes' ∷ []

-- ---- sukhlent_reduce: "a record made from a list has the word 0"
abbrev pub reduce_unused_call : GeneratorList → List ℕ → List ℕ → ℕ → List ℕ → List ℕ → ℕ → Contract
reduce_unused_call l neighbours codes used neighbours' codes' used' =
    contract_of (reduce_lines l neighbours codes) (number used 0 used' ∷ reduce_lent l neighbours codes neighbours' codes')
