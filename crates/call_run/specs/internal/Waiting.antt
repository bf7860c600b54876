-- Records that stand for the reduced record of their group, and what a step on one promises. A name with a prime is
-- what the buffer, or the lent number, holds at exit.
use Rattle.std.specs.Prelude.{Bool, cond, true, List, ℕ, eqb}
use Rattle.calls.specs.InPlace.{used_call, used_measure_call}
use Rattle.calls.specs.Sources.{observe_call}
use Rattle.buffers.specs.Calls.{Call}
use Rattle.operations.specs.Steps.{Operation}
use Rattle.operations.specs.internal.InPlace.{Unrefused}
use Rattle.record.specs.Lent.{code_numbers, held_rows, LentRecord, lent_record, neighbour_words}
use Rattle.record.specs.Reduced.{reduced}
use Rattle.operations.specs.Used.{UsedRecord, UsedUnrefused}

-- the record that is meant: where one is waiting to be reduced, the reduced record of its group
abbrev pub meant_record : Bool → LentRecord → LentRecord
meant_record waiting l =
    record {
      n = l.n;
      neighbours = cond waiting (neighbour_words l.n (reduced l.n (held_rows l))) l.neighbours;
      codes = cond waiting (code_numbers l.n (reduced l.n (held_rows l))) l.codes;
    }

-- with its used word
abbrev pub meant : Bool → UsedRecord → UsedRecord
meant waiting u = record { held = meant_record waiting u.held; used = u.used }

-- no line refuses the record as it is held, and none the one that is meant
pub record Standing (waiting : Bool) (u : UsedRecord) : Type 0 where
  pub sound : Unrefused u.held
  pub checked : UsedUnrefused (meant waiting u)

-- two buffers of a record on as many qubits
abbrev pub held_in : UsedRecord → List ℕ → List ℕ → LentRecord
held_in u words codes = lent_record u.held.n words codes

-- it waits after a gate, a CZ or a measurement that is accepted
abbrev pub then_waiting : ℕ → Bool → Bool
then_waiting k waiting = cond (eqb k 0) true waiting

-- a gate or a CZ on the record that is meant
pub record Stepped (waiting : Bool) (u : UsedRecord) (o : Operation) (words' codes' : List ℕ) (k : ℕ) : Type 0 where
  pub sound : Unrefused (held_in u words' codes')
  pub call : Call (used_call (meant waiting u) o
      (meant_record (then_waiting k waiting) (held_in u words' codes')).neighbours
      (meant_record (then_waiting k waiting) (held_in u words' codes')).codes) k

-- a measurement
pub record MeasuredStep (waiting : Bool) (u : UsedRecord) (pauli q b : ℕ) (words' codes' : List ℕ)
    (used' outcome determined k : ℕ) : Type 0 where
  pub sound : Unrefused (held_in u words' codes')
  pub call : Call (used_measure_call (meant waiting u) pauli q b 0 0
      (meant_record (then_waiting k waiting) (held_in u words' codes')).neighbours
      (meant_record (then_waiting k waiting) (held_in u words' codes')).codes used' outcome determined) k

-- a measurement with a bit by lot
pub record ObservedStep (waiting : Bool) (u : UsedRecord) (pauli q b : ℕ) (words' codes' : List ℕ)
    (used' outcome determined k : ℕ) : Type 0 where
  pub sound : Unrefused (held_in u words' codes')
  pub call : Call (observe_call (meant waiting u) pauli q b 0 0
      (meant_record (then_waiting k waiting) (held_in u words' codes')).neighbours
      (meant_record (then_waiting k waiting) (held_in u words' codes')).codes used' outcome determined) k
