-- What the loops of `crosses` keep.
use Rattle.record_impl.proofs.Squares.{SomeTo}
use Rattle.parties_impl.proofs.Edges.{crossing_at}
use Rattle.parties_impl.proofs.masks.crosses.Given as goal

abbrev pub invariant-loop-j : goal.invariant-loop-j
invariant-loop-j l = SomeTo l.j 64 (crossing_at l.word l.neighbours) l.found
