-- The refusals of a job text, in checking order: what only the proofs name.
use Rattle.std.specs.Prelude.{◌≡◌, Bool, not, List, ◌∷◌, ℕ, length}
use Rattle.buffers.specs.Refusals.{Refusal, line, first_fitting}
use Rattle.jobs.specs.declared.Step.{Step}
use Rattle.jobs.specs.Text.{HasJobForm, JobTextOf}
use Rattle.jobs.specs.JobLines.{job_lines}

-- 1: "The program's text does not have its form"
abbrev pub text_lines : Bool → ℕ → ℕ → List Refusal
text_lines formed n count = line 1 (not formed) ∷ job_lines n count

-- k is the number of the text t; 0 where it is accepted
pub record TextNumber (t : List ℕ) (k : ℕ) : Type 0 where
  pub malformed : (HasJobForm t → ⊥) → k ≡ 1
  pub formed : (n : ℕ) (steps : List Step) → JobTextOf n steps t → k ≡ first_fitting (job_lines n (length steps))
