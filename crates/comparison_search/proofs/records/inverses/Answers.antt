-- `inverses` meets its contract: the codes that undo a record's.
use mathlib.Core.Path.{refl}
use Prim.Native.Nat.{◌<◌}
use native.Mathlib.Omega.{arith}
use lib.ListN.{length}
use Rattle.buffers.proofs.Filling.{all-filled, fill_start, fill_step}
use Rattle.comparison.proofs.NextChoice.{at_set, zeros-codes}
use Rattle.comparison_search.proofs.records.inverses.Goals as goal

pub loop-q-init : goal.loop-q-init
loop-q-init c = (zeros-codes 64, fill_start 64 _ _ refl)

pub loop-q-preserved : goal.loop-q-preserved
loop-q-preserved c =
    let l = c.loop-q in
    let more = c.loop-q-test.true in
    let fits : l.q < length l.all = omega (arith, more, l.invariant.1.long, c.requires.0) in (
      at_set l.all l.q _ fits (λ k. k < 24) l.invariant.0 c.inverse-undone.ensures.1,
      fill_step 64 _ l.all l.q _ l.invariant.1 (omega (arith, more, c.requires.0)) c.inverse-undone.ensures.0,
    )

pub returns : goal.returns
returns c =
    let l = c.loop-q in
    (all-filled 0 64 _ l.all l.q _ l.invariant.1 c.loop-q-test.false, l.invariant.0)
