-- `look` meets its contract: none where a code is 24 or more, else the vertices whose codes are odd, or 8 or more.
use mathlib.Core.Bool.{not}
use mathlib.Core.Path.{ap, sym, ◌∙◌, ◌≡◌}
use Prim.Native.Nat.{◌*◌, ◌-◌, ◌≤◌}
use lib.Bits.{bit_and}
use lib.Dec.{eqb}
use native.Mathlib.Omega.{arith}
use Rattle.std.proofs.lemmas.Bool.{ne_eqb}
use Rattle.operations_gates.proofs.LookedAt.{below_at, below_last, below_next, over-is, rows_at, rows_last, rows-marked, rows_next}
use Rattle.operations_gates.proofs.suspecting.look.Goals as goal

pub loop-e-init : goal.loop-e-init
loop-e-init c =
    let P = c.last_codes-last.ensures in (
      omega arith,
      below_last _ _ _ _ P c.high_bits-high.ensures (omega arith),
      rows_last _ _ _ _ P c.marks-rows.ensures (omega arith),
    )

pub loop-e-preserved : goal.loop-e-preserved
loop-e-preserved c =
    let L = c.loop-e in
    let eight : 8 ≤ 8 * L.e = omega (arith, c.loop-e-test.true) in
    let same : 8 * (L.e - 1) ≡ 8 * L.e - 8 = omega arith in
    let P = rw same at c.eight_codes-x.ensures in
    rw same (
      omega (arith, L.invariant.0),
      below_next _ _ _ _ P c.high_bits-high-in-loop-e.ensures L.high (below_at _ (omega (arith, eight)) L.invariant.1),
      rows_next _ _ _ _ P c.marks.ensures L.rows (rows_at _ (omega (arith, eight)) L.invariant.2),
    )

pub returns-then-high-ne0 : goal.returns-then-high-ne0
returns-then-high-ne0 c =
    let L = c.loop-e in
    let none : 8 * L.e ≡ 0 = omega (arith, c.loop-e-test.false) in
    let some = ne_eqb (bit_and L.high 16204198715729174752) 0 c.if-high-ne0.true in
    record { over_value = sym (ap not some) ∙ over-is _ L.high (below_at _ none L.invariant.1); marked = tt }

pub returns : goal.returns
returns c =
    let L = c.loop-e in
    let none : 8 * L.e ≡ 0 = omega (arith, c.loop-e-test.false) in
    record {
      over_value = sym (ap (λ v. not (eqb v 0)) c.if-high-ne0.false)
          ∙ over-is _ L.high (below_at _ none L.invariant.1);
      marked = rows-marked _ L.rows _ (rows_at _ none L.invariant.2) c.turned.ensures.upper_bound
          c.turned.ensures.by_index;
    }
