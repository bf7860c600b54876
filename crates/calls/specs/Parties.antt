-- What a party's gate, cz, measurement and complementation promise, for all arguments: their lines in checking order,
-- and what is lent for their answers. A name with a prime is what the buffer, or the lent number, holds at exit.
use Rattle.std.specs.Prelude.{List, [], ◌∷◌, ℕ}
use Rattle.buffers.specs.Calls.{Contract, Lent, buffer, contract_of, number}
use Rattle.parties.specs.PartyLines.{party_after, party_lines}
use Rattle.operations.specs.Measurement.{determined_number, outcome_number}
use Rattle.operations.specs.Steps.{Operation, measured_answer, measurement_of}
use Rattle.operations.specs.Used.{UsedRecord}

-- the record's two buffers
abbrev pub party_lent : ℕ → ℕ → UsedRecord → Operation → List ℕ → List ℕ → List Lent
party_lent word g u o neighbours' codes' =
    buffer u.held.neighbours (party_after word g u o).held.neighbours neighbours'
    ∷ buffer u.held.codes (party_after word g u o).held.codes codes' ∷ []

-- ---- sukhlent_group_gate, sukhlent_group_cz, sukhlent_group_complement
abbrev pub party_call : ℕ → ℕ → UsedRecord → Operation → List ℕ → List ℕ → Contract
party_call word g u o neighbours' codes' =
    contract_of (party_lines word g u o) (party_lent word g u o neighbours' codes')

-- ---- sukhlent_group_measure: outcome and determined are those of the whole record
abbrev pub party_measure_call : (word g : ℕ) (u : UsedRecord) (pauli q b answer determined : ℕ)
    (neighbours' codes' : List ℕ) (used' answer' determined' : ℕ) → Contract
party_measure_call word g u pauli q b answer determined neighbours' codes' used' answer' determined' =
    contract_of (party_lines word g u (measurement_of pauli q b))
    (number u.used (party_after word g u (measurement_of pauli q b)).used used'
    ∷ number answer (outcome_number (measured_answer u.held pauli q b)) answer'
    ∷ number determined (determined_number (measured_answer u.held pauli q b)) determined'
    ∷ party_lent word g u (measurement_of pauli q b) neighbours' codes')
