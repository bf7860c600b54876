-- What the loops of `put_before` keep.
use Rattle.operations_rewriting.proofs.PuttingBefore.{Putting}
use Rattle.operations_rewriting.proofs.complements.put_before.Given as goal

abbrev pub invariant-loop-rest : goal.invariant-loop-rest
invariant-loop-rest l = Putting l.initial.codes l.word l.k l.codes l.rest

abbrev pub decreases-loop-rest : goal.decreases-loop-rest
decreases-loop-rest l = l.rest
