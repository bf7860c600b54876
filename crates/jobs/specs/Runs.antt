-- Runs: the record that a job starts from, the record after each step, and what each step answers.
use Rattle.std.specs.Prelude.{cond, List, [], ◌∷◌, ℕ, eqb, replicate, take}
use Rattle.buffers.specs.Buffers.{accepted_number}
use Rattle.operations.specs.Measurement.{determined_number, outcome_number}
use Rattle.operations.specs.Steps.{Operation, complement_of, cz_on, gate_with, measured_answer, measurement_of, pivot_of}
use Rattle.record.specs.Lent.{LentRecord}
use Rattle.operations.specs.Used.{UsedRecord, used_record, used_step}
use Rattle.source.specs.Renewal.{renewed}
use Rattle.jobs.specs.Asked.{Request, asked, carry_out, number_of, observation_of, renewal_of}
use Rattle.jobs.specs.declared.Answer.{Answer}
use Rattle.jobs.specs.declared.Step.{Step}

-- "All qubits start in +Z, with code 8 and no edge"
abbrev pub started : ℕ → UsedRecord
started n =
    used_record n (replicate n 0) (replicate n 8) 0

-- the record that an accepted call leaves: an observation that of the measurement with the outcome that it answers
abbrev pub request_leaves : UsedRecord → Request → UsedRecord
request_leaves u (carry_out o) = (used_step u o).after
request_leaves u (observation_of pauli q b) =
    (used_step u (measurement_of pauli q (outcome_number (measured_answer u.held pauli q b)))).after
request_leaves u (renewal_of q k) = renewed u q k

-- "A refused step changes nothing": else the record is what the call leaves
abbrev pub after_step : UsedRecord → Step → UsedRecord
after_step u s = cond (eqb (number_of u s) 0) (request_leaves u (asked s)) u

-- ".. and the job continues"
unfoldable pub run : UsedRecord → List Step → UsedRecord
run u [] = u
run u (s ∷ rest) = run (after_step u s) rest

-- "the record after the first k steps" of a job on n qubits
abbrev pub record_after : ℕ → List Step → ℕ → UsedRecord
record_after n steps k = run (started n) (take k steps)

-- ---- answers
-- a measurement's outcome and whether it is determined. "Fields without meaning print 0"
abbrev pub outcome_of : LentRecord → Operation → ℕ
outcome_of l (gate_with q k) = 0
outcome_of l (cz_on a b) = 0
outcome_of l (measurement_of pauli q b) = outcome_number (measured_answer l pauli q b)
outcome_of l (complement_of a) = 0
outcome_of l (pivot_of j k) = 0

-- 1 where the outcome is determined
abbrev pub determined_of : LentRecord → Operation → ℕ
determined_of l (gate_with q k) = 0
determined_of l (cz_on a b) = 0
determined_of l (measurement_of pauli q b) = determined_number (measured_answer l pauli q b)
determined_of l (complement_of a) = 0
determined_of l (pivot_of j k) = 0

-- of what a step asks: an observation answers what the measurement with its bit does
abbrev pub request_outcome : LentRecord → Request → ℕ
request_outcome l (carry_out o) = outcome_of l o
request_outcome l (observation_of pauli q b) = outcome_number (measured_answer l pauli q b)
request_outcome l (renewal_of q k) = 0

-- 1 where its outcome is determined
abbrev pub request_determined : LentRecord → Request → ℕ
request_determined l (carry_out o) = determined_of l o
request_determined l (observation_of pauli q b) = determined_number (measured_answer l pauli q b)
request_determined l (renewal_of q k) = 0

-- "refusal outcome determined" of a step on a record
abbrev pub answer_of : UsedRecord → Step → Answer
answer_of u s =
    record {
      refusal = number_of u s;
      outcome = accepted_number (number_of u s) (request_outcome u.held (asked s)) 0;
      determined = accepted_number (number_of u s) (request_determined u.held (asked s)) 0;
    }

-- of each step
unfoldable pub step_answers : UsedRecord → List Step → List Answer
step_answers u [] = []
step_answers u (s ∷ rest) = answer_of u s ∷ step_answers (after_step u s) rest
