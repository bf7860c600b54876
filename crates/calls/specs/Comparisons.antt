-- What the public call on two generator lists promises, for all arguments.
-- A name with a prime is what the buffer holds at exit.
use Rattle.std.specs.Prelude.{List, [], ◌∷◌, ℕ, length}
use Rattle.buffers.specs.Buffers.{tabulate, written}
use Rattle.comparison.specs.Choices.{least_code}
use Rattle.comparison.specs.Compared.{compare_lines}
use Rattle.comparison.specs.ComparedPairs.{compare_list}
use Rattle.buffers.specs.Calls.{Contract, buffer, contract_of, number}
use Rattle.stabilizer.specs.Lists.{GeneratorList, rows}

-- ---- sukhlent_compare: the least choice, the complementation list and its count
abbrev pub compare_call : (l m : GeneratorList) (choice list : List ℕ) (count : ℕ) (choice' list' : List ℕ)
    (count' : ℕ) → Contract
compare_call l m choice list count choice' list' count' =
    contract_of (compare_lines l m choice list)
    (buffer choice (tabulate l.n (least_code l.n (rows l) (rows m))) choice'
    ∷ buffer list (written (compare_list l.n (rows l) (rows m)) list) list'
    ∷ number count (length (compare_list l.n (rows l) (rows m))) count' ∷ [])
