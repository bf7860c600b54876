-- What the loops of `remove_edges` keep.
use Rattle.operations_measurement.proofs.RemovedEdges.{Leaving}
use Rattle.operations_measurement.proofs.isolation.remove_edges.Given as goal

abbrev pub invariant-loop-rest : goal.invariant-loop-rest
invariant-loop-rest l = Leaving l.initial.neighbours l.q l.neighbours l.rest

abbrev pub decreases-loop-rest : goal.decreases-loop-rest
decreases-loop-rest l = l.rest
