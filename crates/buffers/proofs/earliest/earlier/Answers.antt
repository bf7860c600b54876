-- `earlier` meets its contract: the number of the line that comes first in checking order; 0 stands for no line.
use borrow.Author.Tests.{eq-eqb, le-ltb, lt-ltb, ne_eqb}
use Rattle.buffers.proofs.earliest.earlier.Goals as goal

pub returns-then-a-eq0 : goal.returns-then-a-eq0
returns-then-a-eq0 c = simp (eq-eqb _ _ c.if-a-eq0.true)

pub returns-then-b-eq0 : goal.returns-then-b-eq0
returns-then-b-eq0 c = simp (ne_eqb _ _ c.if-a-eq0.false, eq-eqb _ _ c.if-b-eq0.true)

pub returns-then-a-b : goal.returns-then-a-b
returns-then-a-b c =
    simp (
      ne_eqb _ _ c.if-a-eq0.false,
      ne_eqb _ _ c.if-b-eq0.false,
      lt-ltb _ _ c.if-a-b.true,
    )

pub returns-else-a-b : goal.returns-else-a-b
returns-else-a-b c =
    simp (
      ne_eqb _ _ c.if-a-eq0.false,
      ne_eqb _ _ c.if-b-eq0.false,
      le-ltb _ _ c.if-a-b.false,
    )
