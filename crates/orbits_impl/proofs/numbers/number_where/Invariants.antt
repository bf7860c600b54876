-- What the loops of `number_where` keep.
use Rattle.record.specs.Graph.{Graph}
use Rattle.orbits.specs.Numbers.{pairs_of}
use Rattle.orbits_impl.proofs.PairLoops.{AtPair, Numbering}
use Rattle.orbits_impl.specs.internal.Tests.{Tells}
use Rattle.orbits_impl.proofs.numbers.number_where.Given as goal

abbrev pub invariant-loop-k : goal.invariant-loop-k
invariant-loop-k g l =
    AtPair l.n (pairs_of l.n) l.k l.pair
    × ((θ : Graph) → Tells l.n (goal.F-post g l.joined) θ → Numbering l.n (pairs_of l.n) θ l.number l.k l.pair)
