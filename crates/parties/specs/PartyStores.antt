-- "Each holds four named states of its own part" (02, §13): the places of a party in one store of eight, the lines of
-- its save, return and forget, and what each leaves.
use Rattle.std.specs.Prelude.{◌&&◌, Bool, not, ◌||◌, ◌++◌, List, [], ◌∷◌, ◌*◌, ◌+◌, ℕ, eqb, drop, set, take}
use Rattle.buffers.specs.Refusals.{Refusal, line, with_test}
use Rattle.store.specs.Kept.{save_place, with_place}
use Rattle.store.specs.Places.{Store, count_at, holds_name, is_held, named_twice, others_held, place_at, place_of}
use Rattle.store.specs.StoreLines.{holds_line, of_held, of_record, record_tests, store_lengths}
use Rattle.operations.specs.Used.{UsedRecord}
use Rattle.words.specs.Bits.{Word}
use Rattle.words.specs.Search.{some}
use Rattle.parties.specs.PartyLines.{with_party}
use Rattle.parties.specs.Masks.{crosses, in_party, masked, merged, reaches_out}

-- the heads of party g's four places, among the 24 of a store: words lent beyond them are no place
abbrev pub own_heads : ℕ → List ℕ → List ℕ
own_heads g heads = take 12 (drop (12 * g) (take 24 heads))

-- the four places of party g: 4 g to 4 g + 3; a party above 1 has none
abbrev pub own_places : ℕ → Store → Store
own_places g st =
    record {
      heads = own_heads g st.heads;
      neighbours = take 256 (drop (256 * g) st.neighbours);
      codes = take 256 (drop (256 * g) st.codes);
    }

-- 2: a state held in them has another n than 64
abbrev pub other_count : Store → Bool
other_count own = some 4 (λ i. is_held own.heads i && not (eqb (count_at own.heads i) 64))

-- 7: "a held state with a neighbour outside it"
abbrev pub held_out : Word → Store → Bool
held_out s own = some 4 (λ i. is_held own.heads i && reaches_out s (place_at own i))

-- the lines of the store that a party's call looks at: the lengths of its buffers, and the party's own places
abbrev pub own_lines : Word → ℕ → Store → List Refusal
own_lines s g st =
    with_test 7 (named_twice 4 (own_places g st).heads || held_out s (own_places g st))
    (with_test 4 (store_lengths 8 st) (with_test 2 (other_count (own_places g st))
    (record_tests (of_held 4 (own_places g st)))))

-- the lines that save, return and forget share: a line holds where it does of the record or of the store; then 19
abbrev pub shared_lines : ℕ → ℕ → UsedRecord → Store → List Refusal
shared_lines word g u st =
    with_party g u.held.n (record_tests (λ m. of_record u m || holds_line m (own_lines (in_party word g) g st)))
    ++ (line 19 (crosses word u) ∷ [])

-- those of a save. 18: "For a group, four names take the place of eight"
abbrev pub party_save_lines : ℕ → ℕ → UsedRecord → ℕ → Store → List Refusal
party_save_lines word g u name st =
    shared_lines word g u st ++ (line 18 (others_held 4 (own_places g st).heads name) ∷ [])

-- those of a return or a forget
abbrev pub party_named_lines : ℕ → ℕ → UsedRecord → ℕ → Store → List Refusal
party_named_lines word g u name st =
    shared_lines word g u st ++ (line 17 (not (holds_name 4 (own_places g st).heads name)) ∷ [])

-- ---- what is left
-- the place of the store that a party's name has, or that a save of it takes
abbrev pub party_place_of : ℕ → ℕ → Store → ℕ
party_place_of g name st = 4 * g + place_of 4 (own_places g st).heads name

-- the store after an accepted save: the state is that of the party's own vertices
abbrev pub party_saved : ℕ → ℕ → UsedRecord → ℕ → Store → Store
party_saved word g u name st =
    with_place (4 * g + save_place 4 (own_places g st).heads name) (masked (in_party word g) u) name st

-- the record after an accepted return: "returning touches only that part"
abbrev pub party_returned : ℕ → ℕ → UsedRecord → ℕ → Store → UsedRecord
party_returned word g u name st = merged (in_party word g) (place_at st (party_place_of g name st)) u

-- the heads after an accepted forget
abbrev pub party_forgotten : ℕ → ℕ → Store → List ℕ
party_forgotten g name st = set st.heads (3 * party_place_of g name st) 0
