-- `compare_parts` meets its contract: the least choice that carries the group of the first record onto that of the
-- second.
use mathlib.Core.Path.{subst, sym}
use native.Mathlib.Omega.{arith}
use lib.ListN.{replicate}
use Rattle.comparison.proofs.NextChoice.{zeros-codes}
use Rattle.comparison.proofs.TableEnds.{empty-rows}
use Rattle.record.specs.Graph.{Simple}
use Rattle.record.specs.NeighbourWords.{graph_in}
use Rattle.comparison_parts.proofs.Parting.{all-answer, next-component, none-answer, progress_start, progress_step, rest-falls, vertex-in-buffer}
use Rattle.comparison_parts.proofs.compare_parts.Goals as goal

pub loop-rest-init : goal.loop-rest-init
loop-rest-init c =
    let a = c.args in (
      progress_start a.n a.neighbours.now a.codes.now a.neighbours2.now a.codes2.now c.requires.1 _
          c.mask-rest.ensures (replicate 64 0) (zeros-codes 64),
      empty-rows,
    )

pub part-component-requires : goal.part-component-requires
part-component-requires c =
    let a = c.args in
    let F = c.requires.1.first in record {
      neighbours_len_bound = (
        omega (arith, F.neighbours-long, c.requires.1.upto),
        vertex-in-buffer a.n a.neighbours.now a.codes.now a.neighbours2.now a.codes2.now c.requires.1
            c.loop-rest.rest c.loop-rest.choice c.loop-rest.invariant.0
            c.loop-rest-test.true _ c.smallest-q.ensures.0,
      );
      simple = subst (λ m. Simple m (graph_in a.neighbours.now)) (sym F.neighbours-long) F.simple;
    }

pub compare_component-requires : goal.compare_component-requires
compare_component-requires c =
    let a = c.args in record {
      sound_pair = c.requires.1;
      component = (
        next-component a.n a.neighbours.now a.codes.now a.neighbours2.now a.codes2.now c.requires.1
            c.loop-rest.rest c.loop-rest.choice c.loop-rest.invariant.0
            c.loop-rest-test.true _ c.smallest-q.ensures.0 _ c.part-component.ensures,
        c.loop-rest.invariant.1,
      );
    }

pub returns-in_err-compare_component : goal.returns-in_err-compare_component
returns-in_err-compare_component c =
    let a = c.args in
    rw c.from_residual.ensures
    (none-answer a.n a.neighbours.now a.codes.now a.neighbours2.now a.codes2.now c.requires.1
    c.loop-rest.rest c.loop-rest.choice c.loop-rest.invariant.0
    c.loop-rest-test.true _ c.smallest-q.ensures.0 _ c.part-component.ensures _
    c.in_err-compare_component.ensures.component_answer)

pub loop-rest-smaller : goal.loop-rest-smaller
loop-rest-smaller c =
    let a = c.args in
    rest-falls a.n a.neighbours.now a.codes.now a.neighbours2.now a.codes2.now c.requires.1
    c.loop-rest.rest c.loop-rest.choice c.loop-rest.invariant.0
    c.loop-rest-test.true _ c.smallest-q.ensures.0 _ c.part-component.ensures

pub loop-rest-preserved : goal.loop-rest-preserved
loop-rest-preserved c =
    let a = c.args in (
      progress_step a.n a.neighbours.now a.codes.now a.neighbours2.now a.codes2.now c.requires.1
          c.loop-rest.rest c.loop-rest.choice c.loop-rest.invariant.0
          c.loop-rest-test.true _ c.smallest-q.ensures.0 _ c.part-component.ensures _
          c.in_ok-compare_component.ensures.component_answer,
      c.in_ok-compare_component.ensures.empty_from,
    )

pub returns : goal.returns
returns c =
    let a = c.args in
    all-answer a.n a.neighbours.now a.codes.now a.neighbours2.now a.codes2.now c.requires.1
    c.loop-rest.rest c.loop-rest.choice c.loop-rest.invariant.0
    c.loop-rest-test.false
