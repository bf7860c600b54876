-- What the loops of `square_of` keep.
use Rattle.record_impl.proofs.Squares.{OwnTo}
use Rattle.record_impl.proofs.checks.square_of.Given as goal

abbrev pub invariant-loop-i : goal.invariant-loop-i
invariant-loop-i l = OwnTo l.i l.n l.words l.rows l.own l.place
