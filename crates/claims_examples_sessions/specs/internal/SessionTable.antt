-- Examples of the request on faster sessions: the list that a record is expanded to, changed; the record that this
-- reduces to; and the one that the operation leaves.
use Rattle.std.specs.Prelude.{◌++◌, List, [], ◌∷◌, ℕ}
use Rattle.operations.specs.Steps.{Operation, cz_on, gate_with, leaves, measurement_of}
use Rattle.record.specs.Lent.{code_numbers, held_rows, LentRecord, lent_record, neighbour_words}
use Rattle.record.specs.Reduced.{reduced}
use Rattle.stabilizer.specs.Lists.{GeneratorList, list_of, rows}
use Rattle.claims.specs.SessionDemand.{Change, changed, cz_change, gate_change, measure_change}
use Rattle.claims_examples.specs.internal.Examples.{Example, example}

abbrev in_numbers : GeneratorList → List (List ℕ)
in_numbers m = m.signs ∷ m.z ∷ m.x ∷ []

abbrev reduced_numbers : GeneratorList → List (List ℕ)
reduced_numbers m = neighbour_words m.n (reduced m.n (rows m)) ∷ code_numbers m.n (reduced m.n (rows m)) ∷ []

abbrev contents : LentRecord → List (List ℕ)
contents l = l.neighbours ∷ l.codes ∷ []

abbrev both_ways : LentRecord → Operation → Change → List (List ℕ)
both_ways l o f = in_numbers (changed f (list_of l.n (held_rows l)))
    ++ (reduced_numbers (changed f (list_of l.n (held_rows l))) ++ contents (leaves l o))

-- XX, ZZ, and -ZI, -IZ
abbrev joined : LentRecord
joined = lent_record 2 (2 ∷ 1 ∷ []) (0 ∷ 8 ∷ [])

abbrev apart : LentRecord
apart = lent_record 2 (0 ∷ 0 ∷ []) (10 ∷ 10 ∷ [])

-- signs, z words and x words; then, for both ways, neighbour words and codes
abbrev session : List (List ℕ) → List ℕ → List ℕ → List ℕ → List ℕ → List ℕ → Example (List (List ℕ))
session given s z x nb cs = example given (s ∷ z ∷ x ∷ nb ∷ cs ∷ nb ∷ cs ∷ [])

abbrev pub table : List (Example (List (List ℕ)))
table =
    -- a Hadamard on qubit 0: ZX, XZ
    session (both_ways joined (gate_with 0 8) (gate_change 2 0 8)) (0 ∷ 0 ∷ []) (1 ∷ 2 ∷ []) (2 ∷ 1 ∷ []) (2 ∷ 1 ∷ [])
    (0 ∷ 0 ∷ [])
    -- CZ: YY, ZZ
    ∷ session (both_ways joined (cz_on 0 1) (cz_change 0 1)) (0 ∷ 0 ∷ []) (3 ∷ 3 ∷ []) (3 ∷ 0 ∷ []) (2 ∷ 1 ∷ [])
    (2 ∷ 8 ∷ [])
    -- Z on qubit 0 with outcome 1, not determined: -ZI, ZZ
    ∷ session (both_ways joined (measurement_of 3 0 1) (measure_change 2 3 0 1)) (1 ∷ 0 ∷ []) (1 ∷ 3 ∷ []) (0 ∷ 0 ∷ [])
    (0 ∷ 0 ∷ []) (10 ∷ 10 ∷ [])
    -- Z on qubit 1 with bit 1, determined: -ZI, -IZ as they were
    ∷ session (both_ways apart (measurement_of 3 1 1) (measure_change 2 3 1 1)) (1 ∷ 1 ∷ []) (1 ∷ 2 ∷ []) (0 ∷ 0 ∷ [])
    (0 ∷ 0 ∷ []) (10 ∷ 10 ∷ [])
    ∷ []
