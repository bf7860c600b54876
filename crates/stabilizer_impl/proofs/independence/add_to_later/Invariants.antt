-- What the loops of `add_to_later` keep.
use Rattle.stabilizer_impl.proofs.Additions.{Adding}
use Rattle.stabilizer_impl.proofs.independence.add_to_later.Given as goal

abbrev pub invariant-loop-j : goal.invariant-loop-j
invariant-loop-j l = Adding l.n l.k l.in_x l.i l.initial.z l.initial.x l.z l.x l.j
