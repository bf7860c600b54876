-- `below` meets its contract.
use native.Mathlib.Omega.{arith}
use Rattle.jobs.proofs.Shapes as shapes
use Rattle.jobs.proofs.drawing.below.Goals as goal

pub overflow_cast-result : goal.overflow_cast-result
overflow_cast-result c = omega (arith, shapes.below c.args.n c.requires.0 c.args.d)
