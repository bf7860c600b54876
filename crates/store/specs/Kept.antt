-- What a save and a forget leave in a store (02, §12).
use Rattle.std.specs.Prelude.{cond, ◌++◌, List, ◌*◌, ◌+◌, ℕ, drop, length, set, take}
use Rattle.operations.specs.Used.{UsedRecord}
use Rattle.store.specs.Places.{Store, free_place, holds_name, place_of}

-- "saving under a held name replaces it": its place; else the smallest free one
abbrev pub save_place : ℕ → List ℕ → ℕ → ℕ
save_place k heads name = cond (holds_name k heads name) (place_of k heads name) (free_place k heads)

-- the three words of place i
abbrev pub headed : ℕ → ℕ → ℕ → ℕ → List ℕ → List ℕ
headed i n name used heads = set (set (set heads (3 * i) n) (3 * i + 1) name) (3 * i + 2) used

-- a buffer with these numbers for place i; all others keep their values, also those of the place past them
abbrev pub placed_at : ℕ → List ℕ → List ℕ → List ℕ
placed_at i new old = take (64 * i) old ++ (new ++ drop (64 * i + length new) old)

-- the store with the record at place i
abbrev pub with_place : ℕ → UsedRecord → ℕ → Store → Store
with_place i u name st =
    record {
      heads = headed i u.held.n name u.used st.heads;
      neighbours = placed_at i u.held.neighbours st.neighbours;
      codes = placed_at i u.held.codes st.codes;
    }

-- after an accepted save
abbrev pub saved : ℕ → UsedRecord → ℕ → Store → Store
saved k u name st = with_place (save_place k st.heads name) u name st

-- "forgetting a name makes its place free for the next save"
abbrev pub forgotten_heads : ℕ → ℕ → List ℕ → List ℕ
forgotten_heads k name heads = set heads (3 * place_of k heads name) 0

-- after an accepted forget
abbrev pub forgotten : ℕ → ℕ → Store → Store
forgotten k name st =
    record { heads = forgotten_heads k name st.heads; neighbours = st.neighbours; codes = st.codes }
