-- `last_codes` meets its contract: the codes from a place on in a word, the first lowest.
use native.Mathlib.Nat.{le_refl}
use native.Mathlib.Omega.{arith}
use Rattle.operations_gates.proofs.PackedBytes.{packed-at, packed-next, packed_none}
use Rattle.operations_gates.proofs.suspecting.last_codes.Goals as goal

pub loop-i-init : goal.loop-i-init
loop-i-init c = (c.requires, packed_none _ _ (le_refl _))

pub loop-i-preserved : goal.loop-i-preserved
loop-i-preserved c =
    let L = c.loop-i in
    let B = c.byte.ensures in (
      omega (arith, c.loop-i-test.true),
      packed-next _ L.i L.all _ (omega (arith, c.loop-i-test.true)) B.0 B.1 L.invariant.1,
    )

pub returns : goal.returns
returns c =
    let L = c.loop-i in
    packed-at (omega (arith, L.invariant.0, c.loop-i-test.false)) L.invariant.1
