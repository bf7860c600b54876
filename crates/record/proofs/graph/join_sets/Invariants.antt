-- What the loops of `join_sets` keep.
use Rattle.record.proofs.JoinedSets.{Joining}
use Rattle.record.proofs.graph.join_sets.Given as goal

abbrev pub invariant-loop-rest : goal.invariant-loop-rest
invariant-loop-rest l = Joining l.initial.neighbours l.to_a l.to_b l.neighbours l.rest

abbrev pub decreases-loop-rest : goal.decreases-loop-rest
decreases-loop-rest l = l.rest
