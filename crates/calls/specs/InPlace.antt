-- What the calls on a record lent in place promise, for all arguments. A name with a prime is what the buffer, or the
-- lent number, holds at exit.
use Rattle.std.specs.Prelude.{List, [], ◌∷◌, ℕ}
use Rattle.buffers.specs.Calls.{Contract, Lent, buffer, contract_of, number}
use Rattle.operations.specs.Measurement.{determined_number, outcome_number}
use Rattle.operations.specs.Steps.{Operation, lines_of, made, measured_answer, measurement_of}
use Rattle.record.specs.Lent.{LentRecord, code_numbers, neighbour_words}
use Rattle.operations.specs.Used.{UsedRecord, used_after, used_lines_of}

-- the record's two buffers
abbrev pub record_lent : LentRecord → Operation → List ℕ → List ℕ → List Lent
record_lent l o neighbours' codes' =
    buffer l.neighbours (neighbour_words l.n (made l o)) neighbours'
    ∷ buffer l.codes (code_numbers l.n (made l o)) codes' ∷ []

-- the outcome of a measurement and whether it was determined, and the record
abbrev pub measure_lent : (l : LentRecord) (pauli q b answer determined : ℕ) (neighbours' codes' : List ℕ)
    (answer' determined' : ℕ) → List Lent
measure_lent l pauli q b answer determined neighbours' codes' answer' determined' =
    number answer (outcome_number (measured_answer l pauli q b)) answer'
    ∷ number determined (determined_number (measured_answer l pauli q b)) determined'
    ∷ record_lent l (measurement_of pauli q b) neighbours' codes'

-- ---- sukhlent_gate, sukhlent_cz, sukhlent_complement, and the pivot of a job: "gates, cz and rewritings copy" the
-- used word, which is not lent
abbrev pub used_call : UsedRecord → Operation → List ℕ → List ℕ → Contract
used_call u o neighbours' codes' = contract_of (used_lines_of u o) (record_lent u.held o neighbours' codes')

-- ---- sukhlent_measure: "an accepted measurement sets the qubit's bit"
abbrev pub used_measure_call : (u : UsedRecord) (pauli q b answer determined : ℕ) (neighbours' codes' : List ℕ)
    (used' answer' determined' : ℕ) → Contract
used_measure_call u pauli q b answer determined neighbours' codes' used' answer' determined' =
    contract_of (used_lines_of u (measurement_of pauli q b))
    (number u.used (used_after u (measurement_of pauli q b)) used'
    ∷ measure_lent u.held pauli q b answer determined neighbours' codes' answer' determined')

-- ---- the same without the used word: an accepted call is one of these
abbrev pub in_place_call : LentRecord → Operation → List ℕ → List ℕ → Contract
in_place_call l o neighbours' codes' = contract_of (lines_of l o) (record_lent l o neighbours' codes')

-- a measurement on the graph and the codes: its outcome and whether it was determined besides
abbrev pub measure_call : (l : LentRecord) (pauli q b answer determined : ℕ) (neighbours' codes' : List ℕ)
    (answer' determined' : ℕ) → Contract
measure_call l pauli q b answer determined neighbours' codes' answer' determined' =
    contract_of (lines_of l (measurement_of pauli q b))
    (measure_lent l pauli q b answer determined neighbours' codes' answer' determined')
