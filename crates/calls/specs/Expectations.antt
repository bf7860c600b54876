-- What the call on the value of a Pauli row promises, for all arguments. A name with a prime is what the lent number
-- holds at exit.
use Rattle.std.specs.Prelude.{false, ◌||◌, List, [], ◌∷◌, ◌^◌, ℕ, leb}
use Rattle.buffers.specs.Refusals.{Refusal}
use Rattle.buffers.specs.Calls.{Contract, contract_of, number}
use Rattle.expectation.specs.Values.{stabilizer_value}
use Rattle.pauli.specs.Pauli.{signed_row}
use Rattle.record.specs.Lent.{held_rows}
use Rattle.operations.specs.Used.{UsedRecord, used_lines}

-- the lines of a record in checking order. 5: also a z or an x word with a bit at or above n; the row may have letters
-- on used qubits
abbrev pub expectation_lines : UsedRecord → ℕ → ℕ → List Refusal
expectation_lines u z x = used_lines u false (leb (2 ^ u.held.n) z || leb (2 ^ u.held.n) x) false

-- ---- sukhlent_expectation: "a record with its used word, and a Pauli row (z, x)", sign plus, Y where both words have
-- a 1; its value in the record's group
abbrev pub expectation_call : UsedRecord → ℕ → ℕ → ℕ → ℕ → Contract
expectation_call u z x value value' =
    contract_of (expectation_lines u z x)
    (number value (stabilizer_value u.held.n (held_rows u.held) (signed_row false z x)) value' ∷ [])
