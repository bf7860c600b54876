-- `measured_down` meets its contract: the smallest supported word, by measurements of Z from the last qubit down.
use native.Mathlib.Omega.{arith}
use Rattle.operations.proofs.UnrefusedRecords.{unrefused-short, unrefused-simple}
use Rattle.amplitude_impl.proofs.Downwards.{down-more, down-start, down_word}
use Rattle.amplitude_impl.proofs.lowest.measured_down.Goals as goal

pub loop-q-init : goal.loop-q-init
loop-q-init c = down-start _ _ c.requires

pub flip_where-low-requires : goal.flip_where-low-requires
flip_where-low-requires c =
    omega (
      arith,
      c.loop-q.invariant.upto,
      c.loop-q-test.true,
      unrefused-short _ _ c.requires,
    )

pub loop-q-preserved : goal.loop-q-preserved
loop-q-preserved c =
    let start = c.requires in
    down-more _ _ _ _ _ _ c.loop-q.invariant c.loop-q-test.true (unrefused-simple _ _ start) _
    c.forced.ensures.value _ _
    c.forced.ensures.group_held _ c.flip_where-low.ensures

pub returns : goal.returns
returns c = down_word _ _ _ _ _ _ c.loop-q-test.false c.loop-q.invariant
