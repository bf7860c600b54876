-- The answers of a run's steps: one for each step, and a number of each.
use mathlib.Core.List.{List, [], map, ◌∷◌}
use mathlib.Core.Path.{◌≡◌, ap, refl}
use Prim.Native.Nat.{◌<◌, suc, zero, ℕ}
use native.Mathlib.Nat.{le_of_suc-le-suc, not-suc-le-zero}
use lib.ListN.{get_or, length}
use Rattle.operations.specs.Used.{UsedRecord}
use Rattle.jobs.specs.Runs.{after_step, step_answers}
use Rattle.jobs.specs.declared.Answer.{Answer}
use Rattle.jobs.specs.declared.Step.{Step}

-- a number of each answer
pub part-at : (f : Answer → ℕ) (answers : List Answer) (k : ℕ) (other : Answer) → k < length answers
    → get_or (map f answers) k 0 ≡ f (get_or answers k other)
part-at f [] k other h = absurd (not-suc-le-zero h)
part-at f (r ∷ rest) zero other h = refl
part-at f (r ∷ rest) (suc k) other h = part-at f rest k other (le_of_suc-le-suc h)

pub each-answered : (u : UsedRecord) (steps : List Step) → length (step_answers u steps) ≡ length steps
unfolding step_answers
each-answered u [] = refl
each-answered u (s ∷ rest) = ap suc (each-answered (after_step u s) rest)
