-- The lines of the steps, one behind the other.
use mathlib.Core.Path.{◌≡◌, refl, sym, ap, ◌∙◌}
use mathlib.Core.List.{List, [], ◌∷◌, ◌++◌, append_assoc, append-nil}
use Prim.Native.Nat.{ℕ}
use Rattle.jobs.specs.declared.Step.{Step}
use Rattle.jobs.specs.Text.{StepFits, EachStepFits, step_text, steps_text, job_head, job_text}

steps-append : (ss ts : List Step) → steps_text (ss ++ ts) ≡ steps_text ss ++ steps_text ts
unfolding steps_text
steps-append [] ts = refl
steps-append (s ∷ ss) ts =
    ap (λ t. step_text s ++ t) (steps-append ss ts)
    ∙ sym (append_assoc (step_text s) (steps_text ss) (steps_text ts))

-- no step
pub job-none : (n : ℕ) → job_text n [] ≡ job_head n
unfolding job_text steps_text
job-none n = append-nil (job_head n)

-- one step more
pub job-more : (n : ℕ) (ss : List Step) (s : Step) → job_text n (ss ++ s ∷ []) ≡ job_text n ss ++ step_text s
unfolding job_text steps_text
job-more n ss s =
    ap (λ t. job_head n ++ t) (steps-append ss (s ∷ []) ∙ ap (λ t. steps_text ss ++ t) (append-nil (step_text s)))
    ∙ sym (append_assoc (job_head n) (steps_text ss) (step_text s))

pub fit-more : (ss : List Step) (s : Step) → EachStepFits ss → StepFits s → EachStepFits (ss ++ s ∷ [])
fit-more [] s f g = (g, tt)
fit-more (k ∷ ss) s f g = (f.0, fit-more ss s f.1 g)
