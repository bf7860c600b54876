-- The lines of a store of k places: "its held records are checked like any other, and a name held twice in it gives 7"
-- (02, §12).
use Rattle.std.specs.Prelude.{◌&&◌, Bool, false, not, ◌||◌, ◌++◌, List, [], ◌∷◌, ◌*◌, ℕ, eqb}
use Rattle.buffers.specs.Refusals.{Refusal, line, other_than, with_test}
use Rattle.operations.specs.Used.{UsedRecord, used_lines}
use Rattle.words.specs.Search.{some}
use Rattle.store.specs.Places.{Store, holds_name, is_held, named_twice, others_held, place_at}

-- the line with number m is true
abbrev pub holds_line : ℕ → List Refusal → Bool
holds_line m [] = false
holds_line m (l ∷ ls) = (eqb l.number m && l.holds) || holds_line m ls

-- the lines that speak of a record, in checking order, with these tests
abbrev pub record_tests : (ℕ → Bool) → List Refusal
record_tests test = line 2 (test 2) ∷ line 4 (test 4) ∷ line 5 (test 5) ∷ line 6 (test 6) ∷ line 7 (test 7) ∷ []

-- line m is true of a record
abbrev pub of_record : UsedRecord → ℕ → Bool
of_record u m = holds_line m (used_lines u false false false)

-- line m is true of some record held in the first k places
abbrev pub of_held : ℕ → Store → ℕ → Bool
of_held k st m = some k (λ i. is_held st.heads i && of_record (place_at st i) m)

-- 4: three words, 64 neighbour words and 64 codes for each place
abbrev pub store_lengths : ℕ → Store → Bool
store_lengths k st =
    other_than (3 * k) st.heads || (other_than (64 * k) st.neighbours || other_than (64 * k) st.codes)

-- the lines of a store; `others`: a further buffer has a wrong length
abbrev pub store_lines : ℕ → Store → Bool → List Refusal
store_lines k st others =
    with_test 7 (named_twice k st.heads) (with_test 4 (store_lengths k st || others) (record_tests (of_held k st)))

-- those of a save: a line holds where it does of the record or of the store; then 18, "a save finds eight other names
-- held"
abbrev pub save_lines : ℕ → UsedRecord → ℕ → Store → List Refusal
save_lines k u name st =
    record_tests (λ m. of_record u m || holds_line m (store_lines k st false))
    ++ (line 18 (others_held k st.heads name) ∷ [])

-- those of a return or a forget: then 17, "a name to return to or forget is not held"
abbrev pub named_lines : ℕ → ℕ → Store → Bool → List Refusal
named_lines k name st others = store_lines k st others ++ (line 17 (not (holds_name k st.heads name)) ∷ [])
