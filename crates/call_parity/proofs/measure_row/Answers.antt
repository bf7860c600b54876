-- `measure_row` meets its contract: the row measured, the outcome, whether it was determined, and the reduced record.
use mathlib.Core.Bool.{not}
use mathlib.Core.Path.{ap, refl, subst, sym}
use Prim.Native.Nat.{◌<◌, ◌^◌}
use native.Mathlib.Omega.{arith}
use lib.Bits.{bit_and, bit_or}
use borrow.Author.Tests.{eq-eqb, ne_eqb}
use Rattle.buffers.proofs.Calling.{refused}
use Rattle.buffers.proofs.RefusalLaws.{passed_on}
use Rattle.calls.proofs.ParityCalls.{row-16, row_done, row_fits, row-refused}
use Rattle.operations.proofs.UnrefusedRecords.{accepted-unrefused}
use Rattle.operations.specs.Used.{UsedRecord, used_record}
use Rattle.call_parity.proofs.measure_row.Goals as goal

pub returns-in_err-used_refusal : goal.returns-in_err-used_refusal
returns-in_err-used_refusal c =
    let a = c.args in
    let u : UsedRecord = used_record a.n a.neighbours.now a.codes.now a.used in
    let R = passed_on _ _ c.from_residual.ensures.1 c.in_err-used_refusal.ensures in
    refused _ (row-refused u a.z a.x a.bit R.0 R.1) R.1 (refl, (refl, (refl, (refl, tt))))

pub returns-then-used-row-ne0 : goal.returns-then-used-row-ne0
returns-then-used-row-ne0 c =
    let a = c.args in
    let u : UsedRecord = used_record a.n a.neighbours.now a.codes.now a.used in
    refused _ (row-16 u a.z a.x a.bit c.in_ok-used_refusal.ensures refl
    (ap not (ne_eqb (bit_and a.used (bit_or a.z a.x)) 0 c.if-used-row-ne0.true))) (λ z. absurd (omega (arith, z)))
    (refl, (refl, (refl, (refl, tt))))

pub measure_row_record-measured-requires : goal.measure_row_record-measured-requires
measure_row_record-measured-requires c =
    let a = c.args in
    let u : UsedRecord = used_record a.n a.neighbours.now a.codes.now a.used in
    let F = row_fits u a.z a.x a.bit c.in_ok-used_refusal.ensures refl in
    let long = F.held.neighbours-length in
    record {
      unrefused = accepted-unrefused a.n a.neighbours.now a.codes.now F.held;
      z_bound = (subst (λ m. a.z < 2 ^ m) (sym long) F.z-below, subst (λ m. a.x < 2 ^ m) (sym long) F.x_below);
    }

pub returns : goal.returns
returns c =
    let a = c.args in
    let u : UsedRecord = used_record a.n a.neighbours.now a.codes.now a.used in
    row_done u a.z a.x a.bit c.in_ok-used_refusal.ensures refl
    (ap not (eq-eqb (bit_and a.used (bit_or a.z a.x)) 0 c.if-used-row-ne0.false)) a.answer.now a.determined.now _ _ _
    c.measure_row_record-measured.ensures _ _ c.outcome_number.ensures c.determined_number.ensures
