-- `part_above` meets its contract: whether some part has more than 20 vertices.
use mathlib.Core.Path.{subst, sym, ◌∙◌}
use Prim.Native.Nat.{◌+◌}
use lib.ListN.{length}
use borrow.Author.Tests.{le-ltb, lt-ltb}
use Rattle.record.specs.NeighbourWords.{graph_in}
use Rattle.comparison.specs.Parts.{part_above}
use Rattle.stabilizer.proofs.Scanning.{found_at, found_nowhere}
use Rattle.comparison_parts.proofs.Spreading.{Seen, is_large, large_is, seen-again, seen_more, seen_none}
use Rattle.comparison_parts.proofs.sets.part_above.Goals as goal
use Rattle.comparison_parts.proofs.sets.part_above.Goals.{else-not-has, then-not-has+else-count-gt20}

pub loop-q-init : goal.loop-q-init
loop-q-init c = seen_none _ _

pub returns-then-count-gt20 : goal.returns-then-count-gt20
unfolding part_above
returns-then-count-gt20 c =
    let nb = c.args.neighbours.now in
    let n = length nb in
    found_at n (is_large n (graph_in nb)) c.loop-q.q c.loop-q-test.true
    (large_is n (graph_in nb) c.loop-q.q _ _ c.part-component.ensures c.count.ensures.0)
    (lt-ltb 20 _ c.if-count-gt20.true)

pub loop-q-preserved : goal.loop-q-preserved
loop-q-preserved c =
    let nb = c.args.neighbours.now in
    let n = length nb in
    let more = c.loop-q-test.true in
    elim c.if-not-has.branch [
      | then-not-has+else-count-gt20 w ↦ seen_more n (graph_in nb) c.loop-q.seen c.loop-q.q c.loop-q.invariant more c.requires.simple w.part-component.result
          w.count.result _ w.part-component.ensures w.count.ensures.0 (le-ltb 20 _ w.if-count-gt20.false) w.seen-is
      | else-not-has w ↦ subst (λ s. Seen n (graph_in nb) s (c.loop-q.q + 1)) (sym w.seen-is)
          (seen-again n (graph_in nb) c.loop-q.seen c.loop-q.q c.loop-q.invariant more
          (sym c.has.ensures ∙ w.if-not-has.false))
    ]

pub returns : goal.returns
unfolding part_above
returns c =
    let nb = c.args.neighbours.now in
    found_nowhere (length nb) (is_large (length nb) (graph_in nb)) c.loop-q.q c.loop-q.invariant.before
    c.loop-q-test.false
