-- Runs step by step: the answer of each step, and the number of qubits.
use mathlib.Core.Bool.{Bool, cond, false, true}
use mathlib.Core.List.{List, [], ◌∷◌}
use mathlib.Core.Path.{◌∙◌, ◌≡◌, refl}
use Prim.Native.Nat.{◌<◌, suc, zero, ℕ}
use native.Mathlib.Nat.{le_of_suc-le-suc, not-suc-le-zero}
use lib.Dec.{eqb}
use lib.ListN.{get_or, length, take}
use Rattle.operations.specs.Measurement.{outcome_number}
use Rattle.operations.specs.Steps.{Operation, leaves, measured_answer, measurement_of}
use Rattle.operations.specs.Used.{UsedRecord, used_after, used_step}
use Rattle.jobs.specs.Asked.{Request, asked, carry_out, number_of, observation_of, renewal_of}
use Rattle.jobs.specs.Runs.{after_step, answer_of, request_leaves, step_answers, run}
use Rattle.jobs.specs.declared.Answer.{Answer}
use Rattle.jobs.specs.declared.Step.{Step}

-- the answer of step k is that on the record after the first k steps
pub answer_at : (u : UsedRecord) (steps : List Step) (k : ℕ) (other : Step) (none : Answer) → k < length steps
    → get_or (step_answers u steps) k none ≡ answer_of (run u (take k steps)) (get_or steps k other)
unfolding run step_answers
answer_at u [] k other none h = absurd (not-suc-le-zero h)
answer_at u (s ∷ rest) zero other none h = refl
answer_at u (s ∷ rest) (suc k) other none h = answer_at (after_step u s) rest k other none (le_of_suc-le-suc h)

-- the number of qubits stays
pub step-qubits : (u : UsedRecord) (s : Step) → (after_step u s).held.n ≡ u.held.n
step-qubits u s = go (request_leaves u (asked s)) (eqb (number_of u s) 0) (request-qubits (asked s))
  where
    operation-qubits : (o : Operation) → (used_step u o).after.held.n ≡ u.held.n
    operation-qubits o = kept (eqb (used_step u o).number 0)
      where
        kept : (c : Bool) → (cond c (record { held = leaves u.held o; used = used_after u o }) u).held.n ≡
            u.held.n
        kept true = refl
        kept false = refl

    request-qubits : (r : Request) → (request_leaves u r).held.n ≡ u.held.n
    request-qubits (carry_out o) = operation-qubits o
    request-qubits (observation_of pauli q b) =
        operation-qubits (measurement_of pauli q (outcome_number (measured_answer u.held pauli q b)))
    request-qubits (renewal_of q k) = refl

    go : (v : UsedRecord) (b : Bool) → v.held.n ≡ u.held.n → (cond b v u).held.n ≡ u.held.n
    go v true e = e
    go v false e = refl

pub run-qubits : (u : UsedRecord) (steps : List Step) → (run u steps).held.n ≡ u.held.n
unfolding run
run-qubits u [] = refl
run-qubits u (s ∷ rest) = run-qubits (after_step u s) rest ∙ step-qubits u s
