-- `print_run` meets its contract: runs the steps of a job, and prints its answer.
use mathlib.Core.Path.{refl}
use native.Mathlib.Omega.{arith}
use Rattle.jobs_replies.proofs.Starting.{all-printed, record-printable, start-unrefused}
use Rattle.jobs_replies.proofs.answers.print_run.Goals as goal

pub run-used-requires : goal.run-used-requires
run-used-requires c =
    (c.requires.kept, start-unrefused _ _ _ _ _ _ c.requires)

pub print_results-at-requires : goal.print_results-at-requires
print_results-at-requires c =
    let F = c.requires in
    (F.few, omega (arith, F.kept, c.run-used.auto.answers), omega (arith, F.room))

pub print_record-requires : goal.print_record-requires
print_record-requires c =
    record-printable c.args.n _ _ _ _ refl _ _ c.requires _ _ _ _ c.run-used.ensures _ _ c.print_results-at.ensures

pub returns : goal.returns
returns c =
    all-printed c.args.n _ _ _ _ refl _ _ c.requires _ _ _ _ c.run-used.ensures _ _ c.print_results-at.ensures _ _
    c.print_record.ensures
