-- Document 01's example of a measurement, as document 02 changes it, and sessions of complements, gates, CZ and
-- pivots: what the definitions give, beside what is expected.
use Rattle.std.specs.Prelude.{◌++◌, List, [], map, ◌∷◌, ℕ}
use Rattle.buffers.specs.Refusals.{first_fitting}
use Rattle.record.specs.Lent.{LentRecord, lent_record}
use Rattle.operations.specs.Measurement.{determined_number, outcome_number}
use Rattle.operations.specs.Steps.{
  Operation,
  complement_of,
  cz_on,
  gate_with,
  leaves,
  lines_of,
  measured_answer,
  measurement_of,
  pivot_of,
}

-- a record on two vertices, joined by an edge or apart
abbrev edge : ℕ → ℕ → LentRecord
edge c d = lent_record 2 (2 ∷ 1 ∷ []) (c ∷ d ∷ [])

abbrev apart : ℕ → ℕ → LentRecord
apart c d = lent_record 2 (0 ∷ 0 ∷ []) (c ∷ d ∷ [])

-- what the buffers hold: the neighbour words, then the codes
abbrev contents : LentRecord → List ℕ
contents l = l.neighbours ++ l.codes

-- a call's number and what it leaves
abbrev answer : LentRecord → Operation → List ℕ
answer l o = first_fitting (lines_of l o) ∷ contents (leaves l o)

-- a measurement's two further answers before these
abbrev measuring : LentRecord → ℕ → ℕ → ℕ → List ℕ
measuring l pauli q b = determined_number (measured_answer l pauli q b) ∷ outcome_number (measured_answer l pauli q b)
    ∷ answer l (measurement_of pauli q b)

abbrev accepts : LentRecord → List ℕ
accepts l = 0 ∷ contents l

abbrev refuses : ℕ → LentRecord → List ℕ
refuses k l = k ∷ contents l

abbrev number : LentRecord → Operation → ℕ
number l o = first_fitting (lines_of l o)

pub record Example : Type 0 where
  pub given : List ℕ
  pub expected : List ℕ

abbrev example : List ℕ → List ℕ → Example
example a b = record { given = a; expected = b }

abbrev pub table : List Example
table =
    -- "XX, ZZ with Z measured on qubit 0, outcome 1: not determined; codes 10, 10, no edge"
    example (measuring (edge 0 8) 3 0 1) (0 ∷ 1 ∷ accepts (apart 10 10))
    -- "The second measurement in 01's example, Z on qubit 1 with bit 0, is now refused; with bit 1 it is determined"
    ∷ example (answer (apart 10 10) (measurement_of 3 1 0)) (refuses 14 (apart 10 10))
    ∷ example (measuring (apart 10 10) 3 1 1) (1 ∷ 1 ∷ accepts (apart 10 10))
    -- complementing an edge at 0: 13 and 6 come before the codes held
    ∷ example (answer (edge 0 0) (complement_of 0)) (accepts (edge 13 6))
    ∷ example (answer (edge 8 0) (complement_of 0)) (accepts (edge 20 6))
    -- complementing at 0 once more
    ∷ example (answer (edge 13 6) (complement_of 0)) (accepts (edge 1 2))
    -- a pivot
    ∷ example (answer (edge 0 0) (pivot_of 0 1)) (accepts (edge 11 11))
    -- CZ takes the edge away, and again brings it back
    ∷ example (answer (edge 0 0) (cz_on 0 1)) (accepts (apart 0 0))
    ∷ example (answer (apart 0 0) (cz_on 1 0)) (accepts (edge 0 0))
    -- a gate comes after the code held: 4, then 8, is 18, which sends X to -Y
    ∷ example (answer (lent_record 1 (0 ∷ []) (4 ∷ [])) (gate_with 0 8)) (0 ∷ 0 ∷ 6 ∷ [])
    -- refusals
    ∷ example (number (edge 0 0) (gate_with 2 24) ∷ number (edge 0 0) (gate_with 2 0)
    ∷ number (edge 0 0) (cz_on 1 1)
    ∷ number (edge 0 0) (measurement_of 0 0 0) ∷ number (edge 0 0) (measurement_of 3 0 2)
    ∷ number (edge 0 0) (complement_of 2) ∷ number (edge 0 0) (pivot_of 0 0) ∷ number (apart 0 0) (pivot_of 0 1)
    ∷ [])
    (6 ∷ 8 ∷ 8 ∷ 6 ∷ 6 ∷ 8 ∷ 8 ∷ 8 ∷ [])
    ∷ []

abbrev pub given : List (List ℕ)
given = map (λ e. e.given) table

abbrev pub expected : List (List ℕ)
expected = map (λ e. e.expected) table
