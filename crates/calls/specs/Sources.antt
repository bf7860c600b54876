-- What the calls of a source that goes on promise, for all arguments: a measurement with a bit by lot, and a new photon
-- at a used place, of a record and of a group. A name with a prime is what the buffer, or the lent number, holds at
-- exit.
use Rattle.std.specs.Prelude.{List, [], ◌∷◌, ℕ}
use Rattle.buffers.specs.Calls.{Contract, buffer, contract_of, number}
use Rattle.source.specs.PartySources.{party_observe_lines, party_observed, party_renew_lines}
use Rattle.operations.specs.Measurement.{determined_number, outcome_number}
use Rattle.operations.specs.Steps.{measured_answer, measurement_of}
use Rattle.source.specs.Renewal.{renew_lines, renewed}
use Rattle.operations.specs.Used.{UsedRecord, used_after, used_arguments_of}
use Rattle.calls.specs.InPlace.{measure_lent}

-- ---- sukhlent_observe: "as `measure`, but where the state determines the outcome the bit is ignored and the state's
-- sign is the answer": the lines of a measurement without 14, and the same answers
abbrev pub observe_call : (u : UsedRecord) (pauli q b answer determined : ℕ) (neighbours' codes' : List ℕ)
    (used' answer' determined' : ℕ) → Contract
observe_call u pauli q b answer determined neighbours' codes' used' answer' determined' =
    contract_of (used_arguments_of u (measurement_of pauli q b))
    (number u.used (used_after u (measurement_of pauli q b)) used'
    ∷ measure_lent u.held pauli q b answer determined neighbours' codes' answer' determined')

-- ---- sukhlent_renew: "The qubit's bit of `used` becomes 0, its code is `code`, all else stays"
abbrev pub renew_call : UsedRecord → ℕ → ℕ → List ℕ → List ℕ → ℕ → Contract
renew_call u q k neighbours' codes' used' =
    contract_of (renew_lines u q k)
    (number u.used (renewed u q k).used used'
    ∷ buffer u.held.neighbours (renewed u q k).held.neighbours neighbours'
    ∷ buffer u.held.codes (renewed u q k).held.codes codes' ∷ [])

-- ---- sukhlent_group_observe: outcome and determined are those of the whole record
abbrev pub party_observe_call : (word g : ℕ) (u : UsedRecord) (pauli q b answer determined : ℕ)
    (neighbours' codes' : List ℕ) (used' answer' determined' : ℕ) → Contract
party_observe_call word g u pauli q b answer determined neighbours' codes' used' answer' determined' =
    contract_of (party_observe_lines word g u pauli q b)
    (number u.used (party_observed word g u pauli q b).used used'
    ∷ number answer (outcome_number (measured_answer u.held pauli q b)) answer'
    ∷ number determined (determined_number (measured_answer u.held pauli q b)) determined'
    ∷ buffer u.held.neighbours (party_observed word g u pauli q b).held.neighbours neighbours'
    ∷ buffer u.held.codes (party_observed word g u pauli q b).held.codes codes' ∷ [])

-- ---- sukhlent_group_renew
abbrev pub party_renew_call : (word g : ℕ) (u : UsedRecord) (q k : ℕ) (neighbours' codes' : List ℕ) (used' : ℕ) →
    Contract
party_renew_call word g u q k neighbours' codes' used' =
    contract_of (party_renew_lines word g u q k)
    (number u.used (renewed u q k).used used'
    ∷ buffer u.held.neighbours (renewed u q k).held.neighbours neighbours'
    ∷ buffer u.held.codes (renewed u q k).held.codes codes' ∷ [])
