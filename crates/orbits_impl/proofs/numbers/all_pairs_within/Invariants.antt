-- What the loops of `all_pairs_within` keep.
use Rattle.buffers.proofs.Filling.{Filled}
use Rattle.orbits.specs.internal.Numbers.{pairs_within}
use Rattle.orbits_impl.proofs.numbers.all_pairs_within.Given as goal

abbrev pub invariant-loop-set : goal.invariant-loop-set
invariant-loop-set l = Filled 64 (pairs_within l.n) l.table l.set
