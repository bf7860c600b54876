-- The answer to the text of a job: what each step answers and the record after the last, or the one line `refused` and
-- the number.
use Rattle.std.specs.Prelude.{cond, List, ◌≡◌, ℕ, eqb, get_or, length}
use Rattle.buffers.specs.Refusals.{first_fitting}
use Rattle.jobs.specs.Runs.{step_answers, run, started}
use Rattle.jobs.specs.declared.Answer.{Answer}
use Rattle.jobs.specs.declared.Step.{Step}
use Rattle.text.specs.Text.{refused_text}
use Rattle.buffers.specs.Writing.{Printed}
use Rattle.operations.specs.Used.{UsedRecord}
use Rattle.jobs.specs.JobLines.{job_lines}
use Rattle.jobs.specs.Results.{Result, job_answer}
use Rattle.jobs.specs.Text.{HasJobForm, JobTextOf}

-- the answer of no step
abbrev pub no_answer : Answer
no_answer = record { refusal = 0; outcome = 0; determined = 0 }

-- what is printed of an answer
abbrev pub result_of : Answer → Result
result_of r = record { refusal = r.refusal; outcome = r.outcome; determined = r.determined }

-- what is printed of step k of a run from the record l
abbrev pub results_of : UsedRecord → List Step → ℕ → Result
results_of u steps k = result_of (get_or (step_answers u steps) k no_answer)

-- "one line per step with steps counted from 0, and then the record": the answer to an accepted job
abbrev pub run_text : ℕ → List Step → List ℕ
run_text n steps = job_answer (length steps) (results_of (started n) steps) (run (started n) steps)

-- the answer to a text of a job: 15 and 2 are checked "before any step runs"
unfoldable pub job_answer_text : ℕ → List Step → List ℕ
job_answer_text n steps =
    cond (eqb (first_fitting (job_lines n (length steps))) 0) (run_text n steps)
    (refused_text (first_fitting (job_lines n (length steps))))

-- these bytes answer the text t. 1: "The program's text does not have its form"
pub record AnswersJob (t bytes : List ℕ) : Type 0 where
  pub malformed : (HasJobForm t → ⊥) → bytes ≡ refused_text 1
  pub formed : (n : ℕ) (steps : List Step) → JobTextOf n steps t → bytes ≡ job_answer_text n steps

-- the answer to the text t was printed
pub record JobResponse (t before after : List ℕ) (r : ℕ) : Type 0 where
  pub bytes : List ℕ
  pub answers : AnswersJob t bytes
  pub out : Printed bytes 0 before after r
