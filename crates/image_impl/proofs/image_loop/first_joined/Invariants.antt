-- What the loops of `first_joined` keep.
use Rattle.image_impl.proofs.JoinedSearch.{Seeking}
use Rattle.image_impl.proofs.image_loop.first_joined.Given as goal

abbrev pub invariant-loop-rest : goal.invariant-loop-rest
invariant-loop-rest l = Seeking l.neighbours l.c l.rest

abbrev pub decreases-loop-rest : goal.decreases-loop-rest
decreases-loop-rest l = l.rest
