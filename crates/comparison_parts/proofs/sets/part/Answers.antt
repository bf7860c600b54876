-- `part` meets its contract: the connected part of vertex q: the vertex, its neighbours, theirs and so on, until none
-- is new.
use lib.ListN.{length}
use Rattle.record.specs.NeighbourWords.{graph_in}
use Rattle.comparison_parts.proofs.Spreading.{grow-less, grow-more, grow-start, grown}
use Rattle.comparison_parts.proofs.sets.part.Goals as goal

pub loop-reached-init : goal.loop-reached-init
loop-reached-init c =
    let nb = c.args.neighbours.now in
    grow-start (length nb) (graph_in nb) c.requires.simple c.args.q c.requires.neighbours_len_bound.1 _
    c.single-reached.ensures

pub loop-reached-smaller : goal.loop-reached-smaller
loop-reached-smaller c =
    let nb = c.args.neighbours.now in
    grow-less (length nb) (graph_in nb) c.requires.simple c.args.q c.requires.neighbours_len_bound.1 _ _
    c.loop-reached.invariant c.spread-next.ensures c.if-next-reached.false

pub loop-reached-preserved : goal.loop-reached-preserved
loop-reached-preserved c =
    let nb = c.args.neighbours.now in
    grow-more (length nb) (graph_in nb) c.requires.simple c.args.q c.requires.neighbours_len_bound.1 _ _
    c.loop-reached.invariant c.spread-next.ensures

pub returns-then-next-reached : goal.returns-then-next-reached
returns-then-next-reached c =
    let nb = c.args.neighbours.now in
    grown (length nb) (graph_in nb) c.requires.simple c.args.q c.requires.neighbours_len_bound.1 _ _
    c.loop-reached.invariant c.spread-next.ensures c.if-next-reached.true
