-- `measure_known` meets its contract: a Pauli measured at a qubit: the outcome, whether it was determined, the reduced
-- record, and the qubit marked as used.
use mathlib.Core.Path.{ap, refl}
use native.Mathlib.Omega.{arith}
use lib.Bits.{bit_or}
use Rattle.calls.proofs.InPlaceCalls.{as_before, measure-done}
use Rattle.calls.proofs.InPlaceLines.{measure-ready}
use Rattle.calls.proofs.MeasureLines.{measure-passes}
use Rattle.buffers.proofs.Calling.{refused}
use Rattle.buffers.proofs.RefusalLaws.{passed_on}
use Rattle.operations.specs.Steps.{measurement_of}
use Rattle.operations.proofs.AcceptedSteps.{accepted-step, measure-arguments}
use Rattle.operations.specs.Used.{UsedRecord, used_record}
use Rattle.call_gates.proofs.measure.measure_known.Goals as goal

pub returns-in_err-measure_refusal : goal.returns-in_err-measure_refusal
returns-in_err-measure_refusal c =
    let R = passed_on _ _ c.from_residual.ensures.1 c.in_err-measure_refusal.ensures in
    refused _ R.0 R.1 (refl, (refl, (refl, (refl, (refl, tt)))))

pub measure_record-measured-requires : goal.measure_record-measured-requires
measure_record-measured-requires c =
    let a = c.args in
    let u : UsedRecord = used_record a.n a.neighbours.now a.codes.now a.used.now in
    let before = as_before u (measurement_of a.pauli a.qubit a.outcome) c.in_ok-measure_refusal.ensures refl in
    let whole = measure-ready u.held a.pauli a.qubit a.outcome
    (measure-passes u.held a.pauli a.qubit a.outcome before).0 in
    record { unrefused = whole.0; le_pauli = whole.1 }

pub single-requires : goal.single-requires
single-requires c =
    let a = c.args in
    let u : UsedRecord = used_record a.n a.neighbours.now a.codes.now a.used.now in
    let before = as_before u (measurement_of a.pauli a.qubit a.outcome) c.in_ok-measure_refusal.ensures refl in
    omega (
      arith,
      (accepted-step u.held (measurement_of a.pauli a.qubit a.outcome) before).upto,
      (measure-arguments u.held a.pauli a.qubit a.outcome before).below,
    )

pub returns : goal.returns
returns c =
    let a = c.args in
    let u : UsedRecord = used_record a.n a.neighbours.now a.codes.now a.used.now in
    measure-done u a.pauli a.qubit a.outcome a.answer.now a.determined.now
    c.in_ok-measure_refusal.ensures refl _ _ _ c.measure_record-measured.ensures _ _ _
    (ap (bit_or a.used.now) c.single.ensures) c.outcome_number.ensures c.determined_number.ensures
