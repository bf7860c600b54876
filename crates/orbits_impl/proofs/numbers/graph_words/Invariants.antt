-- What the loops of `graph_words` keep.
use Rattle.orbits.specs.Numbers.{pairs_of}
use Rattle.orbits_impl.proofs.Edges.{Joining}
use Rattle.orbits_impl.proofs.numbers.graph_words.Given as goal

abbrev pub invariant-loop-k : goal.invariant-loop-k
invariant-loop-k l = Joining l.n (pairs_of l.n) l.g l.words l.k l.pair
