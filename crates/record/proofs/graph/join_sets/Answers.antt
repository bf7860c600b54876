-- `join_sets` meets its contract: the edges between the two sets flipped.
use Rattle.buffers.proofs.OverSets.{next-in, next-less}
use Rattle.words.proofs.Dropping.{dropped-at}
use Rattle.record.proofs.JoinedSets.{join-end, join_more, join-start}
use Rattle.record.proofs.graph.join_sets.Goals as goal

pub loop-rest-init : goal.loop-rest-init
loop-rest-init c =
    join-start _ c.args.to_a c.args.to_b c.requires.1 c.requires.2

pub bounds-neighbours-i : goal.bounds-neighbours-i
bounds-neighbours-i c =
    next-in _ _ _ _ _ c.loop-rest.invariant c.requires.0 c.loop-rest-test.true _
    c.smallest-i.ensures.0

pub bounds-neighbours-i-in-loop-rest : goal.bounds-neighbours-i-in-loop-rest
bounds-neighbours-i-in-loop-rest c =
    next-in _ _ _ _ _ c.loop-rest.invariant c.requires.0 c.loop-rest-test.true _
    c.smallest-i.ensures.0

pub loop-rest-smaller : goal.loop-rest-smaller
loop-rest-smaller c =
    next-less _ _ _ _ _ c.loop-rest.invariant c.requires.0 c.loop-rest-test.true _
    c.smallest-i.ensures.0 _
    (dropped-at _ _ _ c.without_smallest-rest.ensures c.smallest-i.ensures.0)

pub loop-rest-preserved : goal.loop-rest-preserved
loop-rest-preserved c =
    join_more _ c.args.to_a c.args.to_b _ _ c.loop-rest.invariant c.requires.0
    c.loop-rest-test.true _ c.smallest-i.ensures.0 _ _ c.joined_word.ensures
    (dropped-at _ _ _ c.without_smallest-rest.ensures c.smallest-i.ensures.0)

pub returns : goal.returns
returns c =
    join-end _ c.args.to_a c.args.to_b _ _ c.loop-rest.invariant c.loop-rest-test.false
