-- The calls that compare, with a limit for the parts or without one: `compare_call` and `equivalent_call` are the two
-- cases.
use Rattle.std.specs.Prelude.{Bool, ◌||◌, ◌++◌, List, [], ◌∷◌, ℕ, length}
use Rattle.buffers.specs.Buffers.{tabulate, written}
use Rattle.buffers.specs.Refusals.{Refusal, line}
use Rattle.comparison.specs.Choices.{least_code, no_choice}
use Rattle.comparison.specs.Compared.{has_large_part, pair_lines}
use Rattle.comparison.specs.ComparedPairs.{compare_list}
use Rattle.comparison.specs.internal.ComparedPairs.{limit_lines}
use Rattle.buffers.specs.Calls.{Contract, buffer, contract_of, number}
use Rattle.record.specs.Lent.{LentRecord, held_rows}
use Rattle.stabilizer.specs.Lists.{GeneratorList, rows}
use Rattle.calls.specs.RecordComparisons.{record_large_part, records_lines}

abbrev pub comparing_lines : Bool → GeneratorList → GeneratorList → List Refusal
comparing_lines limited l m =
    limit_lines limited (has_large_part l || has_large_part m) ++ (line 13 (no_choice l.n (rows l) (rows m)) ∷ [])

abbrev pub comparing_call : (limited : Bool) (l m : GeneratorList) (choice list : List ℕ) (count : ℕ)
    (choice' list' : List ℕ) (count' : ℕ) → Contract
comparing_call limited l m choice list count choice' list' count' =
    contract_of (pair_lines l m choice list ++ comparing_lines limited l m)
    (buffer choice (tabulate l.n (least_code l.n (rows l) (rows m))) choice'
    ∷ buffer list (written (compare_list l.n (rows l) (rows m)) list) list'
    ∷ number count (length (compare_list l.n (rows l) (rows m))) count' ∷ [])

abbrev pub comparing_records_lines : Bool → LentRecord → LentRecord → List Refusal
comparing_records_lines limited l m =
    limit_lines limited (record_large_part l || record_large_part m)
    ++ (line 13 (no_choice l.n (held_rows l) (held_rows m)) ∷ [])

abbrev pub comparing_records_call : (limited : Bool) (l m : LentRecord) (choice list : List ℕ) (count : ℕ)
    (choice' list' : List ℕ) (count' : ℕ) → Contract
comparing_records_call limited l m choice list count choice' list' count' =
    contract_of (records_lines l m choice list ++ comparing_records_lines limited l m)
    (buffer choice (tabulate l.n (least_code l.n (held_rows l) (held_rows m))) choice'
    ∷ buffer list (written (compare_list l.n (held_rows l) (held_rows m)) list) list'
    ∷ number count (length (compare_list l.n (held_rows l) (held_rows m))) count' ∷ [])
