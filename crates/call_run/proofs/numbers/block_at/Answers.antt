-- `block_at` meets its contract: the steps from a place on, at most 64.
use mathlib.Core.Path.{refl}
use native.Mathlib.Omega.{arith}
use Rattle.buffers.proofs.Filling.{none_filled, one-filled}
use Rattle.jobs.specs.Parallel.{numbered}
use Rattle.call_run.proofs.Blocks.{block-filled}
use Rattle.call_run.proofs.numbers.block_at.Goals as goal

pub loop-k-init : goal.loop-k-init
loop-k-init c = none_filled (numbered 0 0 0 0) 64 _ _ refl

pub step_at-s-requires : goal.step_at-s-requires
step_at-s-requires c = (omega (arith, c.requires.1), c.requires.2)

pub offset_bounds-steps-k : goal.offset_bounds-steps-k
offset_bounds-steps-k c = omega (arith, c.requires.0)

pub bounds-steps-k : goal.bounds-steps-k
bounds-steps-k c = omega (arith, c.requires.0)

pub loop-k-preserved : goal.loop-k-preserved
loop-k-preserved c =
    let l = c.loop-k in
    one-filled (numbered 0 0 0 0) 64 _ l.steps l.k _ l.invariant (omega (arith, c.requires.0)) c.step_at-s.ensures

pub returns : goal.returns
returns c =
    let a = c.args in
    block-filled a.ops.now a.a.now a.b.now a.value.now a.from _ _ _ c.requires.0 c.requires.1 (omega arith)
    c.loop-k.invariant
