-- What the call that compares two records promises, for all arguments: its lines in checking order, and the buffers
-- lent for its answer. A name with a prime is what the buffer, or the lent number, holds at exit.
use Rattle.std.specs.Prelude.{Bool, not, ◌||◌, ◌++◌, List, [], ◌∷◌, ℕ, eqb, length}
use Rattle.buffers.specs.Buffers.{tabulate, written}
use Rattle.buffers.specs.Refusals.{Refusal, bad_count, line, other_than}
use Rattle.comparison.specs.Choices.{least_code, no_choice}
use Rattle.comparison.specs.ComparedPairs.{compare_list}
use Rattle.buffers.specs.Calls.{Contract, buffer, contract_of, number}
use Rattle.comparison.specs.Parts.{part_above}
use Rattle.record.specs.Lent.{LentRecord, held_record, held_rows, not_simple, record_codes, record_lengths, record_stray}
use Rattle.record.specs.Reduced.{reduced_graph}

-- ---- lines, as for two lists: "of the numbers found in either the first in checking order is returned"
-- 2: "n is 0 or above 64, or the two .. n differ"
abbrev pub records_count : LentRecord → LentRecord → Bool
records_count l m = bad_count l.n || (bad_count m.n || not (eqb l.n m.n))

-- 4: a record's buffer, the choice's or the complementation list's; "The list buffer is 96 bytes"
abbrev pub records_lengths : LentRecord → LentRecord → List ℕ → List ℕ → Bool
records_lengths l m chosen list =
    record_lengths l || (record_lengths m || (other_than l.n chosen || other_than 96 list))

-- 7: "A graph is not simple", of either record
abbrev pub records_not_simple : LentRecord → LentRecord → Bool
records_not_simple l m = not_simple l.n (held_record l).graph || not_simple m.n (held_record m).graph

-- 2 to 7 of the records, and 4 of the buffers
abbrev pub records_lines : LentRecord → LentRecord → List ℕ → List ℕ → List Refusal
records_lines l m chosen list =
    line 2 (records_count l m) ∷ line 4 (records_lengths l m chosen list)
    ∷ line 5 (record_stray l || record_stray m) ∷ line 6 (record_codes l || record_codes m)
    ∷ line 7 (records_not_simple l m) ∷ []

-- 3: "a part exceeds 20", of the reduced graph of a record
abbrev pub record_large_part : LentRecord → Bool
record_large_part l = part_above 20 l.n (reduced_graph l.n (held_rows l))

-- the lines of the comparison in checking order
abbrev pub compare_records_lines : LentRecord → LentRecord → List ℕ → List ℕ → List Refusal
compare_records_lines l m chosen list =
    records_lines l m chosen list
    ++ (line 3 (record_large_part l || record_large_part m) ∷ line 13 (no_choice l.n (held_rows l) (held_rows m)) ∷ [])

-- ---- sukhlent_compare_records: the least choice, the complementation list and its count, of the records' generators
abbrev pub compare_records_call : (l m : LentRecord) (choice list : List ℕ) (count : ℕ) (choice' list' : List ℕ)
    (count' : ℕ) → Contract
compare_records_call l m choice list count choice' list' count' =
    contract_of (compare_records_lines l m choice list)
    (buffer choice (tabulate l.n (least_code l.n (held_rows l) (held_rows m))) choice'
    ∷ buffer list (written (compare_list l.n (held_rows l) (held_rows m)) list) list'
    ∷ number count (length (compare_list l.n (held_rows l) (held_rows m))) count' ∷ [])
