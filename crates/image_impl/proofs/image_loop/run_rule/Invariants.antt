-- What the loops of `run_rule` keep.
use lib.ListN.{length}
use Rattle.cut.specs.Kernel.{count}
use Rattle.words.specs.Bits.{bit}
use Rattle.image_impl.proofs.Rounds.{Reached}
use Rattle.image_impl.specs.internal.Working.{working}
use Rattle.image_impl.proofs.image_loop.run_rule.Given as goal

abbrev pub invariant-loop-next : goal.invariant-loop-next
invariant-loop-next l = Reached (length l.initial.neighbours) (working l.initial.neighbours l.initial.codes l.initial.list l.initial.at) (working l.neighbours l.codes l.list l.at)

abbrev pub decreases-loop-next : goal.decreases-loop-next
decreases-loop-next l = count (length l.initial.neighbours) (bit l.at.c)
