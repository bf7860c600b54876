-- `next_pair` meets its contract: the pair behind.
use borrow.Author.Tests.{le-ltb, lt-ltb}
use Rattle.orbits_impl.proofs.numbers.next_pair.Goals as goal

pub returns-then-pair-n : goal.returns-then-pair-n
returns-then-pair-n c = simp (lt-ltb _ _ c.if-pair-n.true)

pub returns-else-pair-n : goal.returns-else-pair-n
returns-else-pair-n c = simp (le-ltb _ _ c.if-pair-n.false)
