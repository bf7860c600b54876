-- `remove_edges` meets its contract: the edges at q removed, each neighbour loses q, and q all of them.
use mathlib.Core.Path.{◌∙◌, subst, sym}
use Prim.Native.Nat.{◌<◌}
use native.Mathlib.Omega.{arith}
use lib.ListN.{length-set}
use Rattle.buffers.proofs.OverSets.{next-in, next-less, next-short}
use Rattle.words.proofs.Dropping.{dropped-at}
use Rattle.operations_measurement.proofs.RemovedEdges.{leave-end, leave-more, leave-start}
use Rattle.operations_measurement.proofs.isolation.remove_edges.Goals as goal

pub loop-rest-init : goal.loop-rest-init
loop-rest-init c =
    leave-start c.args.neighbours.now c.args.q c.requires.simple

pub offset_bounds-neighbours-i : goal.offset_bounds-neighbours-i
offset_bounds-neighbours-i c =
    omega (
      arith,
      next-short _ _ _ _ _ c.loop-rest.invariant c.requires.neighbours_len_bound.0 c.loop-rest-test.true _
          c.smallest-i.ensures.0,
    )

pub bounds-neighbours-i : goal.bounds-neighbours-i
bounds-neighbours-i c =
    next-in _ _ _ _ _ c.loop-rest.invariant c.requires.neighbours_len_bound.0 c.loop-rest-test.true _
    c.smallest-i.ensures.0

pub offset_bounds-neighbours-i-in-loop-rest : goal.offset_bounds-neighbours-i-in-loop-rest
offset_bounds-neighbours-i-in-loop-rest c =
    omega (
      arith,
      next-short _ _ _ _ _ c.loop-rest.invariant c.requires.neighbours_len_bound.0 c.loop-rest-test.true _
          c.smallest-i.ensures.0,
    )

pub bounds-neighbours-i-in-loop-rest : goal.bounds-neighbours-i-in-loop-rest
bounds-neighbours-i-in-loop-rest c =
    next-in _ _ _ _ _ c.loop-rest.invariant c.requires.neighbours_len_bound.0 c.loop-rest-test.true _
    c.smallest-i.ensures.0

pub without_smallest-rest-requires : goal.without_smallest-rest-requires
without_smallest-rest-requires c = c.loop-rest-test.true

pub loop-rest-smaller : goal.loop-rest-smaller
loop-rest-smaller c =
    next-less _ _ _ _ _ c.loop-rest.invariant c.requires.neighbours_len_bound.0 c.loop-rest-test.true _
    c.smallest-i.ensures.0 _
    (dropped-at _ _ _ c.without_smallest-rest.ensures c.smallest-i.ensures.0)

pub loop-rest-preserved : goal.loop-rest-preserved
loop-rest-preserved c =
    leave-more _ c.args.q c.requires.simple _ _ c.loop-rest.invariant c.requires.neighbours_len_bound.0
    c.loop-rest-test.true _ c.smallest-i.ensures.0 _ _ c.single-own.ensures
    (dropped-at _ _ _ c.without_smallest-rest.ensures c.smallest-i.ensures.0)

pub bounds-neighbours-q-2 : goal.bounds-neighbours-q-2
bounds-neighbours-q-2 c =
    subst (λ m. c.args.q < m) (sym c.loop-rest.invariant.long) c.requires.neighbours_len_bound.1

pub shape_of-neighbours : goal.shape_of-neighbours
shape_of-neighbours c =
    length-set c.loop-rest.neighbours c.args.q 0 ∙ c.loop-rest.invariant.long

pub returns : goal.returns
returns c =
    leave-end _ c.args.q c.requires.simple _ _ c.loop-rest.invariant c.loop-rest-test.false c.requires.neighbours_len_bound.1
