-- `entries` meets its contract: 24 entries of a table, from a place on.
use mathlib.Core.Path.{refl}
use native.Mathlib.Omega.{arith}
use Rattle.buffers.proofs.Filling.{all-filled, fill_start, fill_step}
use Rattle.clifford_impl.proofs.compositions.entries.Goals as goal

pub loop-b-init : goal.loop-b-init
loop-b-init c = fill_start _ _ _ refl

pub loop-b-preserved : goal.loop-b-preserved
loop-b-preserved c =
    let l = c.loop-b in
    fill_step _ _ l.row l.b _ l.invariant (omega arith) refl

pub returns : goal.returns
returns c =
    let l = c.loop-b in
    all-filled 0 24 _ l.row l.b 24 l.invariant (omega arith)
