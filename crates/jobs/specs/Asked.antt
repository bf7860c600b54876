-- What a step of a run asks: an operation, a measurement with a bit by lot, or a new photon; the fields that it does
-- not use, and its lines in checking order. A job's steps are those with an operation.
use Rattle.std.specs.Prelude.{Bool, not, ◌||◌, List, ◌%◌, ◌+◌, ◌/◌, ℕ, eqb}
use Rattle.buffers.specs.Refusals.{Refusal, first_fitting, with_test}
use Rattle.operations.specs.Steps.{Operation, complement_of, cz_on, gate_with, measurement_of, pivot_of}
use Rattle.operations.specs.Used.{UsedRecord, used_arguments_of, used_lines_of}
use Rattle.source.specs.Renewal.{renew_lines}
use Rattle.jobs.specs.declared.Op.{Op}
use Rattle.jobs.specs.declared.Op.TheVariants.{Complement, Cz, Gate, Measure, Observe, Pivot, Renew}
use Rattle.jobs.specs.declared.Step.{Step}

-- an operation; Pauli, qubit and bit of an observation; qubit and code of a renewal
pub data Request : Type 0 where
  carry_out : Operation → Request
  observation_of : ℕ → ℕ → ℕ → Request
  renewal_of : ℕ → ℕ → Request

-- "The op is gate, cz, measure, complement or pivot; a and b are qubits; value is a code, or for measure
-- 2 × (Pauli − 1) + outcome". An observation has its bit where a measurement has its outcome
abbrev pub request_of : Op → ℕ → ℕ → ℕ → Request
request_of Gate a b value = carry_out (gate_with a value)
request_of Cz a b value = carry_out (cz_on a b)
request_of Measure a b value = carry_out (measurement_of (value / 2 + 1) a (value % 2))
request_of Complement a b value = carry_out (complement_of a)
request_of Pivot a b value = carry_out (pivot_of a b)
request_of Observe a b value = observation_of (value / 2 + 1) a (value % 2)
request_of Renew a b value = renewal_of a value

-- what a step asks
abbrev pub asked : Step → Request
asked s = request_of s.op s.a s.b s.value

-- some field that the operation does not use is not 0
abbrev pub unused_set : Op → ℕ → ℕ → Bool
unused_set Gate b value = not (eqb b 0)
unused_set Cz b value = not (eqb value 0)
unused_set Measure b value = not (eqb b 0)
unused_set Complement b value = not (eqb b 0) || not (eqb value 0)
unused_set Pivot b value = not (eqb value 0)
unused_set Observe b value = not (eqb b 0)
unused_set Renew b value = not (eqb b 0)

-- ---- lines
-- those of the call that a step stands for: an observation has those of a measurement without 14
abbrev pub request_lines : UsedRecord → Request → List Refusal
request_lines u (carry_out o) = used_lines_of u o
request_lines u (observation_of pauli q b) = used_arguments_of u (measurement_of pauli q b)
request_lines u (renewal_of q k) = renew_lines u q k

-- "an unused field is 0, otherwise the step gives 6": the number of a step on a record
abbrev pub number_of : UsedRecord → Step → ℕ
number_of u s = first_fitting (with_test 6 (unused_set s.op s.b s.value) (request_lines u (asked s)))
