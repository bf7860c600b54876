-- What it means that a text reads back as the steps of a job.
use Rattle.std.specs.Prelude.{◌≡◌, List, ℕ, length}
use Rattle.jobs.specs.declared.Step.{Step}
use Rattle.buffers.specs.Refusals.{first_fitting}
use Rattle.jobs.specs.JobLines.{job_lines}
use Rattle.jobs.specs.Text.{JobTextOf}

-- "must read back as the steps drawn": the text is that of this job and of no other, and no line of a job text refuses
-- it
pub record ReadsBack (n : ℕ) (steps : List Step) (t : List ℕ) : Type 0 where
  pub job : JobTextOf n steps t
  pub only : (m : ℕ) (others : List Step) → JobTextOf m others t → (m ≡ n) × (others ≡ steps)
  pub accepted : first_fitting (job_lines n (length steps)) ≡ 0
