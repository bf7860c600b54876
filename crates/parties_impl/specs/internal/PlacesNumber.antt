-- The number that the checks of a party's four places go by: what only the proofs name.
use Rattle.std.specs.Prelude.{cond, false, ℕ, eqb}
use Rattle.buffers.specs.Refusals.{first_fitting}
use Rattle.parties.specs.PartyStores.{held_out}
use Rattle.store.specs.Places.{Store}
use Rattle.store.specs.StoreLines.{store_lines}
use Rattle.words.specs.Bits.{Word}

-- that of a store of four places; where it is 0, 7 for a held state with a neighbour outside s
abbrev pub places_number : Word → Store → ℕ
places_number s own =
    cond (eqb (first_fitting (store_lines 4 own false)) 0) (cond (held_out s own) 7 0)
    (first_fitting (store_lines 4 own false))
