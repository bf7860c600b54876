-- What the loops of `reaches_out` keep.
use Rattle.record_impl.proofs.Squares.{SomeTo}
use Rattle.parties_impl.proofs.Edges.{out_at}
use Rattle.parties_impl.proofs.masks.reaches_out.Given as goal

abbrev pub invariant-loop-row : goal.invariant-loop-row
invariant-loop-row l = SomeTo l.row-index 64 (out_at l.own l.neighbours) l.found
