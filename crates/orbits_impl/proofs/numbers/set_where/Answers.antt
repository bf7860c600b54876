-- `set_where` meets its contract: w with bit q set where b is true.
use Rattle.orbits_impl.proofs.Edges.{added, not-added}
use Rattle.orbits_impl.proofs.numbers.set_where.Goals as goal

pub returns-then-b : goal.returns-then-b
returns-then-b c = added _ _ _ _ c.if-b.true c.single.ensures

pub returns-else-b : goal.returns-else-b
returns-else-b c = not-added _ _ _ c.if-b.false
