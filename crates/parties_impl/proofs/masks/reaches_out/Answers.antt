-- `reaches_out` meets its contract: whether some vertex of a record has a neighbour outside a word.
use native.Mathlib.Omega.{arith}
use Rattle.parties_impl.proofs.Edges.{out-all, out-here, some-to-none, some-to-one}
use Rattle.parties_impl.proofs.masks.reaches_out.Goals as goal

pub loop-row-init : goal.loop-row-init
loop-row-init c = some-to-none 64 _

pub loop-row-preserved : goal.loop-row-preserved
loop-row-preserved c =
    let l = c.loop-row in
    let a = c.args in
    some-to-one l.row-index 64 _ l.found _ (omega arith)
    (out-here a.own a.neighbours.now l.row-index c.others-outside.ensures c.meet-found.ensures) l.invariant

pub returns : goal.returns
returns c =
    let a = c.args in
    out-all a.own a.neighbours.now c.loop-row.invariant (omega arith)
