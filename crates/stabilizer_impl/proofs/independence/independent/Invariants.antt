-- What the loops of `independent` keep.
use Rattle.stabilizer.proofs.Pairs.{letters_of}
use Rattle.stabilizer_impl.proofs.Elimination.{Pivoted}
use Rattle.stabilizer_impl.proofs.independence.independent.Given as goal

abbrev pub invariant-loop-k : goal.invariant-loop-k
invariant-loop-k l = Pivoted l.n (letters_of l.z l.x) l.own_z l.own_x l.k
