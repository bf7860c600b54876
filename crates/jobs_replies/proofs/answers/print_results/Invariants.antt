-- What the loops of `print_results` keep.
use mathlib.Core.Path.{◌≡◌}
use lib.ListN.{length}
use Rattle.jobs.specs.Results.{result_lines}
use Rattle.buffers.specs.Writing.{Printed}
use Rattle.jobs_replies.specs.internal.Room.{result_in}
use Rattle.jobs_replies.proofs.answers.print_results.Given as goal

abbrev pub invariant-loop-k : goal.invariant-loop-k
invariant-loop-k l =
    Printed (result_lines l.k (result_in l.answers)) l.initial.at l.initial.out l.out l.at
    × (length l.out ≡ length l.initial.out)
