-- `unpack` meets its contract: the answers that were kept as one number each, told apart.
use mathlib.Core.Path.{◌∙◌, sym}
use native.Mathlib.Omega.{arith}
use Rattle.call_run.proofs.Telling.{told-all, told-next, told_none}
use Rattle.call_run.proofs.checks.unpack.Goals as goal

pub loop-k-init : goal.loop-k-init
loop-k-init c = told_none _ _ _ c.requires.0 c.requires.1

pub bounds-outcomes-k : goal.bounds-outcomes-k
bounds-outcomes-k c = omega (arith, c.loop-k.invariant.numbers.long, c.loop-k.invariant.bits.long)

pub bounds-determined-k : goal.bounds-determined-k
bounds-determined-k c = omega (arith, c.loop-k.invariant.numbers.long, c.loop-k.invariant.marks.long)

pub loop-k-preserved : goal.loop-k-preserved
loop-k-preserved c = told-next _ _ _ _ _ c.loop-k.invariant (omega (arith, c.loop-k.invariant.numbers.long))

pub shape_of-answers : goal.shape_of-answers
shape_of-answers c = c.loop-k.invariant.numbers.long

pub shape_of-outcomes : goal.shape_of-outcomes
shape_of-outcomes c = c.loop-k.invariant.bits.long ∙ sym c.requires.0

pub shape_of-determined : goal.shape_of-determined
shape_of-determined c = c.loop-k.invariant.marks.long ∙ sym c.requires.1

pub returns : goal.returns
returns c = told-all _ _ _ _ _ c.loop-k.invariant (omega (arith, c.loop-k.invariant.numbers.long))
