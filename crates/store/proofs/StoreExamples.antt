-- The request's cases on a store of eight places: numbers, and what a save and a forget leave.
use mathlib.Core.Bool.{false}
use mathlib.Core.List.{List, [], ◌∷◌}
use mathlib.Core.Path.{◌≡◌, refl}
use Prim.Native.Nat.{ℕ}
use lib.ListN.{replicate}
use Rattle.buffers.specs.Refusals.{first_fitting, reaching}
use Rattle.record.specs.Lent.{not_simple}
use Rattle.operations.specs.Used.{UsedRecord, used_record, used_wrong}
use Rattle.words.specs.Bits.{bit}
use Rattle.words.specs.Search.{every, first, some}
use Rattle.store.specs.Kept.{forgotten_heads, save_place, saved}
use Rattle.store.specs.Places.{Store, found, lookup, place_at}
use Rattle.store.specs.StoreLines.{named_lines, save_lines}

-- one qubit with this code
abbrev qubit : ℕ → UsedRecord
qubit c = used_record 1 (0 ∷ []) (c ∷ []) 0

-- an edge and a measured qubit
abbrev three : UsedRecord
three = used_record 3 (2 ∷ 1 ∷ 0 ∷ []) (0 ∷ 8 ∷ 10 ∷ []) 4

abbrev stored : List ℕ → Store
stored heads = record { heads = heads; neighbours = replicate 512 0; codes = replicate 512 0 }

abbrev empty : Store
empty = stored (replicate 24 0)

-- the heads of A to H, one qubit each, with this n of the third and these last two names
abbrev heads : ℕ → ℕ → ℕ → List ℕ
heads n g h =
    1 ∷ 65 ∷ 0 ∷ 1 ∷ 66 ∷ 0 ∷ n ∷ 67 ∷ 0 ∷ 1 ∷ 68 ∷ 0 ∷ 1 ∷ 69 ∷ 0 ∷ 1 ∷ 70 ∷ 0 ∷ 1 ∷ g ∷ 0 ∷ 1 ∷ h ∷ 0 ∷ []

abbrev eight : Store
eight = stored (heads 1 71 72)

abbrev saving : UsedRecord → ℕ → Store → ℕ
saving u name st = first_fitting (save_lines 8 u name st)

abbrev returning : ℕ → Store → ℕ
returning name st = first_fitting (named_lines 8 name st false)

-- code 24 at the first place
abbrev spoilt : Store
spoilt = record { heads = heads 1 71 72; neighbours = replicate 512 0; codes = 24 ∷ replicate 511 0 }

abbrev given : List ℕ
given =
    returning 65 empty ∷ saving three 90 eight ∷ saving three 65 eight ∷ returning 65 eight
    ∷ saving three 90 (stored (heads 0 71 72)) ∷ returning 67 (stored (heads 0 71 72)) ∷ returning 90 spoilt
    ∷ returning 65 (stored (heads 1 71 71)) ∷ saving (qubit 24) 65 (stored (heads 1 71 71))
    ∷ returning 65 (stored (heads 65 71 71)) ∷ []

pub store-numbers : given ≡ 17 ∷ 18 ∷ 0 ∷ 0 ∷ 0 ∷ 17 ∷ 6 ∷ 7 ∷ 6 ∷ 2 ∷ []
unfolding bit some every first first_fitting reaching not_simple used_wrong
store-numbers = refl

-- A saved again takes its place; with C forgotten the next name takes C's place
abbrev places : List ℕ
places = save_place 8 (heads 1 71 72) 65 ∷ save_place 8 (heads 1 71 72) 90 ∷ save_place 8 (heads 0 71 72) 90 ∷ []

pub store-places : places ≡ 0 ∷ 8 ∷ 2 ∷ []
unfolding some first
store-places = refl

pub store-forgets : forgotten_heads 8 67 (heads 1 71 72) ≡ heads 0 71 72
unfolding some first
store-forgets = refl

-- and holds the whole record
pub store-saves : place_at (saved 8 three 90 (stored (heads 0 71 72))) 2 ≡ three
unfolding some first
store-saves = refl

-- a name that is held is found with its record
pub store-finds : lookup 8 eight 67 ≡ found (qubit 0)
unfolding some first
store-finds = refl
