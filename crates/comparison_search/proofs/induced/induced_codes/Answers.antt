-- `induced_codes` meets its contract: .. at each qubit.
use mathlib.Core.Path.{refl}
use native.Mathlib.Omega.{arith}
use Rattle.buffers.proofs.Filling.{fill_end, fill_start, fill_step}
use Rattle.comparison_search.proofs.induced.induced_codes.Goals as goal

pub loop-q-init : goal.loop-q-init
loop-q-init c = fill_start _ _ _ refl

pub loop-q-smaller : goal.loop-q-smaller
loop-q-smaller c =
    omega (
      arith,
      c.loop-q.invariant.long,
      c.loop-q-test.true,
    )

pub loop-q-preserved : goal.loop-q-preserved
loop-q-preserved c =
    let l = c.loop-q in
    let more = c.loop-q-test.true in
    fill_step _ _ l.induced l.q _ l.invariant (omega (arith, more, l.invariant.long)) c.induced_code.ensures

pub returns : goal.returns
returns c =
    let l = c.loop-q in
    fill_end _ _ l.induced l.q l.invariant (omega (arith, c.loop-q-test.false, l.invariant.long))
