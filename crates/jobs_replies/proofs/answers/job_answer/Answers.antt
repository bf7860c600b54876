-- `job_answer` meets its contract: prints the answer to a job of these steps.
use mathlib.Core.Path.{refl, sym}
use Rattle.buffers.proofs.Parts.{part-long}
use Rattle.jobs_replies.proofs.Starting.{fresh}
use Rattle.jobs_replies.proofs.answers.job_answer.Goals as goal

pub slice_bounds-print_run-end : goal.slice_bounds-print_run-end
slice_bounds-print_run-end c = sym (part-long _ _ c.requires.1 refl)

pub slice_bounds-print_run-end-2 : goal.slice_bounds-print_run-end-2
slice_bounds-print_run-end-2 c = sym (part-long _ _ c.requires.1 refl)

pub print_run-requires : goal.print_run-requires
print_run-requires c =
    fresh _ _ _ c.requires.0 c.requires.1 c.requires.2 c.requires.3
