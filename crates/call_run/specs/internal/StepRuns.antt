-- What the run of a step promises. A name with a prime is what the buffer, or the lent number, holds at exit.
use Rattle.std.specs.Prelude.{Bool, cond, false, true, List, ◌≡◌, ℕ, eqb}
use Rattle.call_run.specs.internal.Waiting.{held_in, meant, meant_record}
use Rattle.calls.specs.InPlace.{used_call}
use Rattle.buffers.specs.Calls.{Call}
use Rattle.jobs.specs.Asked.{carry_out, request_of}
use Rattle.operations.specs.internal.InPlace.{Unrefused}
use Rattle.jobs.specs.Runs.{after_step, answer_of, determined_of, outcome_of}
use Rattle.jobs.specs.declared.Answer.{Answer}
use Rattle.jobs.specs.declared.Op.{Op}
use Rattle.jobs.specs.declared.Op.TheVariants.{Complement, Cz, Gate, Measure, Observe, Pivot, Renew}
use Rattle.jobs.specs.declared.Step.{Step}
use Rattle.operations.specs.Steps.{Operation}
use Rattle.operations.specs.Used.{UsedRecord, used_after}

-- the step's answer, and the record that it leaves
pub record StepRun (u : UsedRecord) (s : Step) (r : Answer) (neighbours' codes' : List ℕ) (used' : ℕ) : Type 0 where
  pub answer : r ≡ answer_of u s
  pub words : neighbours' ≡ (after_step u s).held.neighbours
  pub numbers : codes' ≡ (after_step u s).held.codes
  pub marks : used' ≡ (after_step u s).used

-- accepted, it leaves a reduced record whatever it found
abbrev pub leaves_reduced : Op → Bool
leaves_reduced Gate = true
leaves_reduced Cz = true
leaves_reduced Measure = true
leaves_reduced Complement = false
leaves_reduced Pivot = false
leaves_reduced Observe = true
leaves_reduced Renew = false

-- whether the record waits after an operation that answers k: a refused one changes nothing
abbrev pub next_waiting : Op → ℕ → Bool → Bool
next_waiting op k waiting = cond (eqb k 0) (leaves_reduced op) waiting

-- an operation without outcome that copies the used word
pub record Plain (u : UsedRecord) (o : Operation) : Type 0 where
  pub copied : used_after u o ≡ u.used
  pub no-outcome : outcome_of u.held o ≡ 0
  pub no-determined : determined_of u.held o ≡ 0

-- such an operation on the record that is meant
pub record WaitedCall (waiting : Bool) (u : UsedRecord) (op : Op) (a b value : ℕ) (words' codes' : List ℕ) (k : ℕ) :
    Type 0 where
  pub operation : Operation
  pub asks : request_of op a b value ≡ carry_out operation
  pub plain : Plain (meant waiting u) operation
  pub sound : Unrefused (held_in u words' codes')
  pub call : Call (used_call (meant waiting u) operation
      (meant_record (next_waiting op k waiting) (held_in u words' codes')).neighbours
      (meant_record (next_waiting op k waiting) (held_in u words' codes')).codes) k

-- a step on the record that is meant
pub record WaitedStep (waiting : Bool) (u : UsedRecord) (s : Step) (r : Answer) (words' codes' : List ℕ) (used' : ℕ) :
    Type 0 where
  pub sound : Unrefused (held_in u words' codes')
  pub run : StepRun (meant waiting u) s r
      (meant_record (next_waiting s.op r.refusal waiting) (held_in u words' codes')).neighbours
      (meant_record (next_waiting s.op r.refusal waiting) (held_in u words' codes')).codes used'

-- an answer without outcome
pub record NoOutcome (r : Answer) : Type 0 where
  pub outcome : r.outcome ≡ 0
  pub determined : r.determined ≡ 0
