-- `settle_all` meets its contract: such steps until no vertex is out of place: then the buffers hold the reduced
-- record of the group.
use Rattle.operations.proofs.Keeping.{kept-codes-long}
use Rattle.operations_gates.proofs.SettlingLoop.{settling-end, settling-less, settling-more, settling-start}
use Rattle.operations_gates.proofs.settling.settle_all.Goals as goal

pub loop-rest-init : goal.loop-rest-init
loop-rest-init c = settling-start _ _ _ _ c.requires.unrefused c.requires.suspected c.requires.watched

pub settle_next-next-requires : goal.settle_next-next-requires
settle_next-next-requires c =
    let inv = c.loop-rest.invariant in record { unrefused = inv.kept.unrefused; suspected = inv.suspected; watched = (inv.watched, c.loop-rest-test.true) }

pub loop-rest-smaller : goal.loop-rest-smaller
loop-rest-smaller c =
    settling-less _ _ _ _ _ _ c.loop-rest.invariant _ _ _ _ c.settle_next-next.ensures

pub loop-rest-preserved : goal.loop-rest-preserved
loop-rest-preserved c =
    settling-more _ _ _ _ _ _ c.loop-rest.invariant _ _ _ _ c.settle_next-next.ensures

pub shape_of-neighbours : goal.shape_of-neighbours
shape_of-neighbours c = c.loop-rest.invariant.kept.long

pub shape_of-codes : goal.shape_of-codes
shape_of-codes c = kept-codes-long _ _ _ _ c.requires.unrefused c.loop-rest.invariant.kept

pub returns : goal.returns
returns c = settling-end _ _ _ _ _ _ c.loop-rest.invariant c.requires.unrefused c.loop-rest-test.false
