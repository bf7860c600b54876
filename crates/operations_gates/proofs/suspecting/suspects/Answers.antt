-- `suspects` meets its contract: the vertices whose codes are odd, or 8 or more.
use mathlib.Core.Path.{◌∙◌, ◌≡◌}
use Prim.Native.Nat.{◌*◌, ◌-◌, ◌≤◌}
use native.Mathlib.Omega.{arith}
use Rattle.record_reduction.proofs.Pivoting.{from_end}
use Rattle.operations_gates.proofs.EightCodes.{below-marked, from-eight, room-for-eight}
use Rattle.operations_gates.proofs.PackedBytes.{packed-suspects}
use Rattle.operations_gates.proofs.suspecting.suspects.Goals as goal

-- the word so far, and eight places left
pub overflow_mul-all : goal.overflow_mul-all
overflow_mul-all c =
    let L = c.loop-e in
    let eight : 8 ≤ 8 * L.e = omega (arith, c.loop-e-test.true) in
    omega (arith, room-for-eight _ _ _ _ L.invariant.1 eight c.requires.0)

pub overflow_add-all : goal.overflow_add-all
overflow_add-all c =
    let L = c.loop-e in
    let eight : 8 ≤ 8 * L.e = omega (arith, c.loop-e-test.true) in
    omega (arith, room-for-eight _ _ _ _ L.invariant.1 eight c.requires.0, c.marked_bytes.ensures.0)

pub loop-e-preserved : goal.loop-e-preserved
loop-e-preserved c =
    let L = c.loop-e in
    let M = c.marked_bytes.ensures in
    let eight : 8 ≤ 8 * L.e = omega (arith, c.loop-e-test.true) in
    let same : 8 * (L.e - 1) ≡ 8 * L.e - 8 = omega arith in
    let P = rw same at c.eight_codes-x.ensures in
    rw same (
      omega (arith, L.invariant.0),
      from-eight _ _ _ _ L.invariant.1 eight _ M.0 (λ k l. M.1 k l ∙ packed-suspects _ _ _ P c.requires.1 k l),
    )

pub returns : goal.returns
returns c =
    let L = c.loop-e in
    below-marked _ _ (from_end _ _ L.all (8 * L.e) L.invariant.1 (omega (arith, c.loop-e-test.false)))
