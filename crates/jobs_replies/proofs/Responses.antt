-- The answer to the text that was scanned, printed.
use mathlib.Core.List.{List}
use mathlib.Core.Path.{◌∙◌, ◌≡◌, subst, sym}
use Prim.Native.Nat.{ℕ}
use lib.ListN.{take}
use Rattle.jobs.proofs.TextAnswers.{accepted-answers, refused-answers}
use Rattle.jobs.specs.Answer.{AnswersJob, JobResponse, run_text}
use Rattle.jobs.specs.internal.Scan.{empty, fed, Reading, verdict}
use Rattle.text.specs.Text.{refused_text}
use Rattle.buffers.specs.Writing.{Printed}

module _ (w : Reading) (before after : List ℕ) (end k : ℕ) (e : k ≡ verdict w.scan) where
  -- a refusal
  pub refusal-responds : (k ≡ 0 → ⊥) → Printed (refused_text k) 0 before after end
      → (t : List ℕ) → w ≡ fed empty t → JobResponse t before after end
  refusal-responds h P t s =
      record {
        bytes = refused_text k;
        answers = subst (λ m. AnswersJob t (refused_text m)) (sym e) (refused-answers t w s (λ z. h (e ∙ z)));
        out = P;
      }

  -- the answer to a job
  pub job-responds : k ≡ 0 → Printed (run_text w.scan.n (take w.scan.count w.steps)) 0 before after end
      → (t : List ℕ) → w ≡ fed empty t → JobResponse t before after end
  job-responds z P t s =
      record {
        bytes = run_text w.scan.n (take w.scan.count w.steps);
        answers = accepted-answers t w s (sym e ∙ z);
        out = P;
      }
