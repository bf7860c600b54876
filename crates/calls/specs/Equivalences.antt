-- What the calls that compare parts of any size promise, for all arguments: the lines of the comparisons without 3, and
-- the same answers. A name with a prime is what the buffer, or the lent number, holds at exit.
use Rattle.std.specs.Prelude.{◌++◌, List, [], ◌∷◌, ℕ, length}
use Rattle.buffers.specs.Buffers.{tabulate, written}
use Rattle.buffers.specs.Refusals.{Refusal, line}
use Rattle.comparison.specs.Choices.{least_code, no_choice}
use Rattle.comparison.specs.Compared.{equivalent_lines}
use Rattle.comparison.specs.ComparedPairs.{compare_list}
use Rattle.buffers.specs.Calls.{Contract, buffer, contract_of, number}
use Rattle.record.specs.Lent.{LentRecord, held_rows}
use Rattle.stabilizer.specs.Lists.{GeneratorList, rows}
use Rattle.calls.specs.RecordComparisons.{records_lines}

-- ---- sukhlent_equivalent: the least choice, the complementation list and its count
abbrev pub equivalent_call : (l m : GeneratorList) (choice list : List ℕ) (count : ℕ) (choice' list' : List ℕ)
    (count' : ℕ) → Contract
equivalent_call l m choice list count choice' list' count' =
    contract_of (equivalent_lines l m choice list)
    (buffer choice (tabulate l.n (least_code l.n (rows l) (rows m))) choice'
    ∷ buffer list (written (compare_list l.n (rows l) (rows m)) list) list'
    ∷ number count (length (compare_list l.n (rows l) (rows m))) count' ∷ [])

-- ---- two records
abbrev pub equivalent_records_lines : LentRecord → LentRecord → List ℕ → List ℕ → List Refusal
equivalent_records_lines l m chosen list =
    records_lines l m chosen list ++ (line 13 (no_choice l.n (held_rows l) (held_rows m)) ∷ [])

-- sukhlent_equivalent_records
abbrev pub equivalent_records_call : (l m : LentRecord) (choice list : List ℕ) (count : ℕ) (choice' list' : List ℕ)
    (count' : ℕ) → Contract
equivalent_records_call l m choice list count choice' list' count' =
    contract_of (equivalent_records_lines l m choice list)
    (buffer choice (tabulate l.n (least_code l.n (held_rows l) (held_rows m))) choice'
    ∷ buffer list (written (compare_list l.n (held_rows l) (held_rows m)) list) list'
    ∷ number count (length (compare_list l.n (held_rows l) (held_rows m))) count' ∷ [])
