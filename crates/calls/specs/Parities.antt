-- What the call that measures a Pauli row promises, for all arguments. A name with a prime is what the buffer, or the
-- lent number, holds at exit.
use Rattle.std.specs.Prelude.{List, [], ◌∷◌, ℕ}
use Rattle.buffers.specs.Calls.{Contract, buffer, contract_of, number}
use Rattle.operations.specs.Measurement.{determined_number, outcome_number}
use Rattle.operations.specs.Used.{UsedRecord}
use Rattle.operations.specs.declared.Outcome.{Outcome}
use Rattle.parity.specs.RowLines.{measure_row_lines}
use Rattle.parity.specs.RowMeasurement.{row_measured, row_outcome}
use Rattle.record.specs.Lent.{LentRecord, code_numbers, held_rows, neighbour_words}
use Rattle.record.specs.Records.{GraphRecord}
use Rattle.record.specs.Reduced.{reduced}
use Rattle.words.specs.Bits.{is_odd}

-- what is answered
abbrev pub row_answer : LentRecord → ℕ → ℕ → ℕ → Outcome
row_answer l z x b = row_outcome l.n (held_rows l) z x (is_odd b)

-- "The reduced record is left"
abbrev pub row_record : LentRecord → ℕ → ℕ → ℕ → GraphRecord
row_record l z x b = reduced l.n (row_measured l.n (held_rows l) z x (is_odd b))

-- ---- sukhlent_measure_row: "the Pauli row (z, x), sign plus, of any weight"; "the used word is only read"
abbrev pub measure_row_call : (u : UsedRecord) (z x b answer determined : ℕ) (neighbours' codes' : List ℕ)
    (answer' determined' : ℕ) → Contract
measure_row_call u z x b answer determined neighbours' codes' answer' determined' =
    contract_of (measure_row_lines u z x b)
    (number answer (outcome_number (row_answer u.held z x b)) answer'
    ∷ number determined (determined_number (row_answer u.held z x b)) determined'
    ∷ buffer u.held.neighbours (neighbour_words u.held.n (row_record u.held z x b)) neighbours'
    ∷ buffer u.held.codes (code_numbers u.held.n (row_record u.held z x b)) codes' ∷ [])
