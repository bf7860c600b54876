-- What the loops of `used_wrong` keep.
use Rattle.operations_checks.proofs.UsedVertices.{Passing}
use Rattle.operations_checks.proofs.used_wrong.Given as goal

abbrev pub invariant-loop-rest : goal.invariant-loop-rest
invariant-loop-rest l = Passing l.neighbours l.codes l.used l.rest

abbrev pub decreases-loop-rest : goal.decreases-loop-rest
decreases-loop-rest l = l.rest
