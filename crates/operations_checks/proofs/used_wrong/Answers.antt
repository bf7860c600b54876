-- `used_wrong` meets its contract: line 7: whether some used vertex is wrong.
use Prim.Native.Nat.{◌<◌}
use mathlib.Core.Path.{subst, sym}
use Rattle.buffers.proofs.OverSets.{next-below, next-less, next-short}
use Rattle.operations_checks.proofs.UsedVertices.{found-wrong, none-wrong, passing-all, passing-one}
use Rattle.operations_checks.proofs.used_wrong.Goals as goal

pub loop-rest-init : goal.loop-rest-init
loop-rest-init c = passing-all _ _ _ c.requires.used_bound

pub bounds-neighbours-q : goal.bounds-neighbours-q
bounds-neighbours-q c =
    next-below _ _ _ _ _ c.loop-rest.invariant.over c.requires.neighbours_len_bound.0 c.loop-rest-test.true _
    c.smallest-q.ensures.0

pub bounds-codes-q : goal.bounds-codes-q
bounds-codes-q c =
    let q = c.smallest-q.result in
    subst (λ m. q < m) (sym c.requires.neighbours_len_bound.1)
    (next-below _ _ _ _ _ c.loop-rest.invariant.over c.requires.neighbours_len_bound.0 c.loop-rest-test.true _
    c.smallest-q.ensures.0)

pub returns-then-wrong_vertex : goal.returns-then-wrong_vertex
returns-then-wrong_vertex c =
    found-wrong _ _ _ _ c.loop-rest.invariant c.requires.neighbours_len_bound.0 c.loop-rest-test.true _
    c.smallest-q.ensures.0 _ c.wrong_vertex.ensures c.if-wrong_vertex.true

pub flip-rest-requires : goal.flip-rest-requires
flip-rest-requires c =
    next-short _ _ _ _ _ c.loop-rest.invariant.over c.requires.neighbours_len_bound.0 c.loop-rest-test.true _
    c.smallest-q.ensures.0

pub loop-rest-smaller : goal.loop-rest-smaller
loop-rest-smaller c =
    next-less _ _ _ _ _ c.loop-rest.invariant.over c.requires.neighbours_len_bound.0 c.loop-rest-test.true _
    c.smallest-q.ensures.0 _ c.flip-rest.ensures

pub loop-rest-preserved : goal.loop-rest-preserved
loop-rest-preserved c =
    passing-one _ _ _ _ c.loop-rest.invariant c.requires.neighbours_len_bound.0 c.loop-rest-test.true _
    c.smallest-q.ensures.0 _ c.wrong_vertex.ensures c.if-wrong_vertex.false _ c.flip-rest.ensures

pub returns : goal.returns
returns c = none-wrong _ _ _ _ c.loop-rest.invariant c.loop-rest-test.false
