-- `suspects_from` meets its contract: the codes from a place on that are odd, or 8 or more.
use Prim.Native.Nat.{◌-◌}
use native.Mathlib.Omega.{arith}
use lib.ListN.{get_or}
use Rattle.record_reduction.proofs.Pivoting.{from-small, from_start, from_step}
use Rattle.words.proofs.BitLaws.{digit_lt}
use Rattle.operations_gates.proofs.EightCodes.{from-held}
use Rattle.operations_gates.specs.internal.Suspects.{suspect}
use Rattle.operations_gates.proofs.suspecting.suspects_from.Goals as goal

pub loop-i-init : goal.loop-i-init
loop-i-init c = (c.requires.2, from_start _ _)

pub overflow_mul-all : goal.overflow_mul-all
overflow_mul-all c =
    let L = c.loop-i in
    omega (arith, from-small _ _ L.all L.i L.invariant.1 (omega (arith, c.loop-i-test.true)) c.requires.0)

pub overflow_add-all : goal.overflow_add-all
overflow_add-all c =
    let L = c.loop-i in
    omega (
      arith,
      from-small _ _ L.all L.i L.invariant.1 (omega (arith, c.loop-i-test.true)) c.requires.0,
      digit_lt (suspect (get_or c.args.codes.now (L.i - 1) 0)),
      c.suspicious.ensures,
    )

pub loop-i-preserved : goal.loop-i-preserved
loop-i-preserved c =
    let L = c.loop-i in (
      omega (arith, c.loop-i-test.true),
      from_step _ _ L.all L.i L.invariant.1 (omega (arith, c.loop-i-test.true)) _ c.suspicious.ensures,
    )

pub returns : goal.returns
returns c =
    let L = c.loop-i in
    from-held _ _ L.all L.i L.invariant.1 _ (omega (arith, L.invariant.0, c.loop-i-test.false))
