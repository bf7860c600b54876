-- A party's observation and renewal on a shared record: their lines, and what an observation leaves. A renewal leaves
-- what it leaves of the whole record: it changes one qubit of the party.
use Rattle.std.specs.Prelude.{◌||◌, List, ℕ}
use Rattle.buffers.specs.Refusals.{Refusal, inserted_before, line}
use Rattle.parties.specs.PartyLines.{party_after, outsider, with_party}
use Rattle.parties.specs.Masks.{crosses, in_party}
use Rattle.operations.specs.Measurement.{outcome_number}
use Rattle.operations.specs.Steps.{measured_answer, measurement_of}
use Rattle.source.specs.Renewal.{renew_lines}
use Rattle.operations.specs.Used.{UsedRecord, used_arguments_of}

-- lines of a party's call at one qubit. 19, "checked directly before 8"
abbrev pub party_lines_at : ℕ → ℕ → UsedRecord → ℕ → List Refusal → List Refusal
party_lines_at word g u q lines =
    inserted_before 8 (line 19 (crosses word u || outsider (in_party word g) u.held.n q))
    (with_party g u.held.n lines)

-- those of an observation
abbrev pub party_observe_lines : ℕ → ℕ → UsedRecord → ℕ → ℕ → ℕ → List Refusal
party_observe_lines word g u pauli q b = party_lines_at word g u q (used_arguments_of u (measurement_of pauli q b))

-- and of a renewal
abbrev pub party_renew_lines : ℕ → ℕ → UsedRecord → ℕ → ℕ → List Refusal
party_renew_lines word g u q k = party_lines_at word g u q (renew_lines u q k)

-- the record after an accepted observation: that after the measurement with the outcome that it answers
abbrev pub party_observed : ℕ → ℕ → UsedRecord → ℕ → ℕ → ℕ → UsedRecord
party_observed word g u pauli q b =
    party_after word g u (measurement_of pauli q (outcome_number (measured_answer u.held pauli q b)))
