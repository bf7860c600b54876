-- `run_numbers` meets its contract: the first steps of the slices, on a record in place.
use native.Mathlib.Omega.{arith}
use Rattle.std.proofs.lemmas.List.{length-take}
use Rattle.jobs.proofs.ParallelLaws.{steps-long}
use Rattle.jobs.specs.Parallel.{steps_in}
use Rattle.call_run.proofs.LastRecord.{first-ready}
use Rattle.operations.specs.Used.{used_record}
use Rattle.call_run.proofs.Blocks.{at-end, block-ready, filled-inside, run-all, run-block-more, run_none}
use Rattle.call_run.proofs.numbers.run_numbers.Goals as goal

pub loop-k-init : goal.loop-k-init
loop-k-init c =
    let a = c.args in
    let u = used_record a.n a.neighbours.now a.codes.now a.used in
    record { ran = run_none u _ _ _; ready = first-ready _ u c.requires.3 }

pub block_at-block-requires : goal.block_at-block-requires
block_at-block-requires c = (omega arith, omega (arith, c.loop-k-test.true, c.requires.0), c.requires.2)

pub run_lent-word-requires : goal.run_lent-word-requires
run_lent-word-requires c = (
  omega (
    arith,
    length-take c.min-m.result c.block_at-block.result,
    c.loop-k-test.true,
    c.loop-k.auto.answers,
    c.requires.1,
  ),
  c.loop-k.invariant.ready,
)

pub loop-k-smaller : goal.loop-k-smaller
loop-k-smaller c = omega (arith, c.loop-k-test.true)

pub loop-k-preserved : goal.loop-k-preserved
loop-k-preserved c =
    let a = c.args in
    let u = used_record a.n a.neighbours.now a.codes.now a.used in
    let l = c.loop-k in
    record {
      ran = run-block-more u (steps_in a.ops.now a.a.now a.b.now a.value.now) a.count a.answers.now l.k
          c.min-m.result (omega (arith, c.loop-k-test.true))
          (omega (arith, c.requires.0, steps-long a.ops.now a.a.now a.b.now a.value.now)) c.requires.1
          c.block_at-block.result c.block_at-block.ensures _ _ _ _ l.invariant.ran _ _ _ _ c.run_lent-word.ensures;
      ready = block-ready (used_record a.n l.neighbours l.codes l.word) l.k c.min-m.result
          c.block_at-block.result (filled-inside l.k _ _ (steps_in a.ops.now a.a.now a.b.now a.value.now)
          c.block_at-block.ensures
          (omega (arith, c.loop-k-test.true, c.requires.0, steps-long a.ops.now a.a.now a.b.now a.value.now)))
          _ _ _ _ _ c.run_lent-word.ensures l.invariant.ready;
    }

pub settle_last-requires : goal.settle_last-requires
settle_last-requires c =
    let l = c.loop-k in (
      omega (arith, l.auto.answers, c.requires.1),
      at-end _ _ _ _ l.invariant.ran.bound c.loop-k-test.false l.invariant.ready,
    )

pub returns : goal.returns
returns c =
    let a = c.args in
    let l = c.loop-k in
    run-all (used_record a.n a.neighbours.now a.codes.now a.used) (steps_in a.ops.now a.a.now a.b.now a.value.now)
    a.count a.answers.now l.k l.neighbours l.codes l.word l.answers c.loop-k-test.false
    (omega (arith, c.requires.0, steps-long a.ops.now a.a.now a.b.now a.value.now)) l.invariant.ran _ _
    c.settle_last.ensures
