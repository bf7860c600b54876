-- What the loops of `some_clash` keep.
use Rattle.stabilizer.proofs.Pairs.{clashes_earlier}
use Rattle.stabilizer.proofs.Scanning.{NoneSoFar}
use Rattle.stabilizer_impl.proofs.checks.some_clash.Given as goal

abbrev pub invariant-loop-i : goal.invariant-loop-i
invariant-loop-i l = NoneSoFar l.n (clashes_earlier l.z l.x) l.i
