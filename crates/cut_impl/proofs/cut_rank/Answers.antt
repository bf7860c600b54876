-- `cut_rank` meets its contract: the rank modulo 2 of the edges between the sides: a column that is no sum of earlier
-- ones leaves a remainder, which joins the basis.
use borrow.Author.Rules.{rules}
use Rattle.record.specs.NeighbourWords.{graph_in}
use Rattle.buffers.proofs.Mapping.{zeros}
use Rattle.cut.specs.Cut.{crossing}
use Rattle.words.specs.Bits.{bit}
use Rattle.cut_impl.proofs.Crossings.{crossing-below}
use Rattle.cut_impl.proofs.Elimination.{all-counted, column-passed, column-stored, in-echelon, place-below, spanning-start}
use Rattle.cut_impl.proofs.cut_rank.Goals as goal
use Rattle.cut_impl.proofs.cut_rank.Goals.{else-rest-ne0, then-rest-ne0}

pub loop-k-init : goal.loop-k-init
unfolding zeros
loop-k-init c = spanning-start _ _

pub crossing_column-column-requires : goal.crossing_column-column-requires
crossing_column-column-requires c =
    let k = c.loop-k.k in record { k_bound = (search rules, search rules); by_index = λ j. c.requires.simple.symmetric j k }

pub remainder-rest-requires : goal.remainder-rest-requires
remainder-rest-requires c =
    let M = crossing (bit c.args.side) (graph_in c.args.neighbours.now) in
    in-echelon c.args.n c.requires.n_bound.0 M _ _ _ c.loop-k.invariant

pub bounds-basis-smallest : goal.bounds-basis-smallest
bounds-basis-smallest c =
    let M = crossing (bit c.args.side) (graph_in c.args.neighbours.now) in
    let below = crossing-below c.args.n c.args.side (graph_in c.args.neighbours.now) _ _ c.requires.n_bound.2
    c.crossing_column-column.ensures in
    place-below c.args.n c.requires.n_bound.0 M _ _ _ c.loop-k.invariant c.loop-k-test.true _
    below c.crossing_column-column.ensures _ c.remainder-rest.ensures c.if-rest-ne0.true _
    c.smallest.ensures.0

pub loop-k-preserved : goal.loop-k-preserved
loop-k-preserved c =
    let M = crossing (bit c.args.side) (graph_in c.args.neighbours.now) in
    let below = crossing-below c.args.n c.args.side (graph_in c.args.neighbours.now) _ _ c.requires.n_bound.2
    c.crossing_column-column.ensures in
    elim c.if-rest-ne0.branch [
      | then-rest-ne0 w ↦ rw (w.basis-is, w.rank-is) (column-stored c.args.n c.requires.n_bound.0 M _ _ _
          c.loop-k.invariant c.loop-k-test.true _ below c.crossing_column-column.ensures _
          c.remainder-rest.ensures w.if-rest-ne0.true _ w.smallest.ensures.0)
      | else-rest-ne0 w ↦ rw (w.basis-is, w.rank-is) (column-passed c.args.n c.requires.n_bound.0 M _ _ _
          c.loop-k.invariant c.loop-k-test.true _ below c.crossing_column-column.ensures _
          c.remainder-rest.ensures w.if-rest-ne0.false)
    ]

pub returns : goal.returns
returns c =
    let M = crossing (bit c.args.side) (graph_in c.args.neighbours.now) in
    all-counted c.args.n c.requires.n_bound.0 M _ _ _ c.loop-k.invariant c.loop-k-test.false
