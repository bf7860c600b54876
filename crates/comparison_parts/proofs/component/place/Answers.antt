-- `place` meets its contract: it puts the codes of a part at its vertices.
use Prim.Native.Nat.{zero-le}
use native.Mathlib.Omega.{arith}
use lib.ListN.{length}
use Rattle.comparison_parts.proofs.Placing.{placing-end, placing-start, placing-step}
use Rattle.comparison_parts.proofs.component.place.Goals as goal

pub loop-i-init : goal.loop-i-init
loop-i-init c = (zero-le, placing-start c.args.at.now c.args.chosen.now c.args.choice.now c.told-choice)

pub loop-i-preserved : goal.loop-i-preserved
loop-i-preserved c = (
  omega arith,
  placing-step c.args.at.now c.args.chosen.now c.args.choice.now c.loop-i.choice (length c.args.at.now)
      c.loop-i.i c.requires.2 c.requires.1 c.loop-i-test.true c.loop-i.invariant.1,
)

pub returns : goal.returns
returns c =
    placing-end c.args.at.now c.args.chosen.now c.args.choice.now c.loop-i.choice (length c.args.at.now) c.loop-i.i
    c.loop-i.invariant.0 c.loop-i-test.false c.loop-i.invariant.1
