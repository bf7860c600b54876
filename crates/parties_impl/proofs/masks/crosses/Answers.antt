-- `crosses` meets its contract: whether a record has an edge between the parties.
use native.Mathlib.Omega.{arith}
use Rattle.parties_impl.proofs.Edges.{crossing-all, crossing-here, some-to-none, some-to-one}
use Rattle.parties_impl.proofs.masks.crosses.Goals as goal

pub loop-j-init : goal.loop-j-init
loop-j-init c = some-to-none 64 _

pub loop-j-preserved : goal.loop-j-preserved
loop-j-preserved c =
    let l = c.loop-j in
    let a = c.args in
    some-to-one l.j 64 _ l.found _ (omega arith)
    (crossing-here a.word a.neighbours.now l.j c.others-other.ensures c.pick.ensures
    c.meet-found.ensures)
    l.invariant

pub returns : goal.returns
returns c =
    let a = c.args in
    crossing-all a.word a.neighbours.now c.loop-j.invariant (omega arith)
