-- `spread` meets its contract: the marked vertices and their neighbours.
use mathlib.Core.Path.{◌∙◌, sym}
use Prim.Native.Nat.{zero-le}
use native.Mathlib.Omega.{arith}
use Rattle.comparison_parts.proofs.Spreading.{passed-all, passed-joined, passed-kept, passed_none}
use Rattle.comparison_parts.proofs.sets.spread.Goals as goal
use Rattle.comparison_parts.proofs.sets.spread.Goals.{else-has, then-has}

pub loop-i-init : goal.loop-i-init
loop-i-init c = (zero-le, passed_none c.args.neighbours.now c.args.marked)

pub loop-i-preserved : goal.loop-i-preserved
loop-i-preserved c =
    let a = c.args in
    let seen = sym c.has.ensures in (
      omega arith,
      elim c.if-has.branch [
        | then-has w ↦ passed-joined a.neighbours.now a.marked c.loop-i.reached c.loop-i.i _ c.loop-i.invariant.1
            (seen ∙ w.if-has.true) w.reached-is
        | else-has w ↦ passed-kept a.neighbours.now a.marked c.loop-i.reached c.loop-i.i _ c.loop-i.invariant.1
            (seen ∙ w.if-has.false) w.reached-is
      ],
    )

pub returns : goal.returns
returns c =
    passed-all c.args.neighbours.now c.args.marked
    c.loop-i.reached c.loop-i.i c.loop-i.invariant.0 c.loop-i-test.false
    c.loop-i.invariant.1
