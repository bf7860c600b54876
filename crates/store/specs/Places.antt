-- A store of named states (02, §12): its three lent buffers, and what each of its places holds.
use Rattle.std.specs.Prelude.{◌&&◌, Bool, cond, not, List, ◌*◌, ◌+◌, ℕ, eqb, drop, get_or, take}
use Rattle.operations.specs.Used.{UsedRecord}
use Rattle.words.specs.Search.{every, first, some}

-- "Up to eight records are held, each under an eight-byte name". Each place has three words among the heads: its n,
-- its name, its used word; and 64 neighbour words and 64 codes, the first n of them its record's
pub record Store : Type 0 where
  pub heads : List ℕ
  pub neighbours : List ℕ
  pub codes : List ℕ

-- the n of place i
abbrev pub count_at : List ℕ → ℕ → ℕ
count_at heads i = get_or heads (3 * i) 0

-- the name that it is held under, its eight bytes as one number: all are names
abbrev pub name_at : List ℕ → ℕ → ℕ
name_at heads i = get_or heads (3 * i + 1) 0

-- "A store starts empty": a place is free where its n is 0
abbrev pub is_held : List ℕ → ℕ → Bool
is_held heads i = not (eqb (count_at heads i) 0)

-- the first n of the 64 numbers that a buffer has for place i
abbrev pub part_at : ℕ → ℕ → List ℕ → List ℕ
part_at i n buffer = take n (drop (64 * i) buffer)

-- "the whole record, its n and used word included"
abbrev pub place_at : Store → ℕ → UsedRecord
place_at st i =
    record {
      held = record {
        n = count_at st.heads i;
        neighbours = part_at i (count_at st.heads i) st.neighbours;
        codes = part_at i (count_at st.heads i) st.codes;
      };
      used = get_or st.heads (3 * i + 2) 0;
    }

-- ---- names
-- place i holds a record under the name
abbrev pub has_name : List ℕ → ℕ → ℕ → Bool
has_name heads name i = is_held heads i && eqb (name_at heads i) name

-- one of the first k places does
abbrev pub holds_name : ℕ → List ℕ → ℕ → Bool
holds_name k heads name = some k (has_name heads name)

-- the place that does; k where none does
abbrev pub place_of : ℕ → List ℕ → ℕ → ℕ
place_of k heads name = first k (has_name heads name)

-- the smallest free place; k where all are held
abbrev pub free_place : ℕ → List ℕ → ℕ
free_place k heads = first k (λ i. not (is_held heads i))

-- what is held under a name
pub data Found : Type 0 where
  nothing : Found
  found : UsedRecord → Found

-- in the first k places
abbrev pub lookup : ℕ → Store → ℕ → Found
lookup k st name = cond (holds_name k st.heads name) (found (place_at st (place_of k st.heads name))) nothing

-- "a name held twice in it": some place has the name of a place before it
abbrev pub named_twice : ℕ → List ℕ → Bool
named_twice k heads = some k (λ i. is_held heads i && holds_name i heads (name_at heads i))

-- "eight other names held": each place holds a record under another name
abbrev pub others_held : ℕ → List ℕ → ℕ → Bool
others_held k heads name = every k (λ i. is_held heads i && not (eqb (name_at heads i) name))
