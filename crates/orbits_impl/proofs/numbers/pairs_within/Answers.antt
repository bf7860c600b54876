-- `pairs_within` meets its contract: the number of the graph in which each two vertices of a set are joined.
use mathlib.Core.Bool.{◌&&◌}
use borrow.Author.Rules.{rules}
use Rattle.words.specs.Bits.{bit}
use Rattle.orbits.specs.internal.Numbers.{pairs_within}
use Rattle.orbits_impl.proofs.numbers.pairs_within.Goals as goal

pub returns : goal.returns
unfolding pairs_within
returns c = c.number_where.ensures (λ i j. bit c.args.set i && bit c.args.set j) (search rules)
