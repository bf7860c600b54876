-- What the loops of `clashes_before` keep.
use Rattle.stabilizer.proofs.Pairs.{clashes_with}
use Rattle.stabilizer.proofs.Scanning.{NoneSoFar}
use Rattle.stabilizer_impl.proofs.checks.clashes_before.Given as goal

abbrev pub invariant-loop-j : goal.invariant-loop-j
invariant-loop-j l = NoneSoFar l.i (clashes_with l.z l.x l.i) l.j
