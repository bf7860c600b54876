-- `observe_known` meets its contract: a Pauli measured at a qubit with a bit by lot: the outcome, whether it was
-- determined, the reduced record, and the qubit marked as used.
use mathlib.Core.Path.{ap, refl, sym}
use native.Mathlib.Omega.{arith}
use lib.Bits.{bit_or}
use Rattle.calls.proofs.InPlaceLines.{held-accepted, measure-ready}
use Rattle.calls.proofs.MeasureLines.{arguments-before}
use Rattle.calls.proofs.SourceCalls.{observe-done}
use Rattle.buffers.proofs.Calling.{refused}
use Rattle.buffers.proofs.RefusalLaws.{passed_on}
use Rattle.operations.specs.Used.{UsedRecord, used_record}
use Rattle.call_source.proofs.observe_known.Goals as goal

pub returns-in_err-argument_refusal : goal.returns-in_err-argument_refusal
returns-in_err-argument_refusal c =
    let R = passed_on _ _ c.from_residual.ensures.1 c.in_err-argument_refusal.ensures in
    refused _ R.0 R.1 (refl, (refl, (refl, (refl, (refl, tt)))))

pub measure_record-measured-requires : goal.measure_record-measured-requires
measure_record-measured-requires c =
    let a = c.args in
    let u : UsedRecord = used_record a.n a.neighbours.now a.codes.now a.used.now in
    let before = arguments-before u a.pauli a.qubit a.bit (sym c.in_ok-argument_refusal.ensures) in
    let whole = measure-ready u.held a.pauli a.qubit a.bit before in
    record { unrefused = whole.0; le_pauli = whole.1 }

pub single-requires : goal.single-requires
single-requires c =
    let a = c.args in
    let u : UsedRecord = used_record a.n a.neighbours.now a.codes.now a.used.now in
    let before = arguments-before u a.pauli a.qubit a.bit (sym c.in_ok-argument_refusal.ensures) in
    omega (
      arith,
      (held-accepted u.held _ _ before).upto,
      (held-accepted u.held _ _ before).neighbours-length,
      (measure-ready u.held a.pauli a.qubit a.bit before).0.1,
    )

pub returns : goal.returns
returns c =
    let a = c.args in
    let u : UsedRecord = used_record a.n a.neighbours.now a.codes.now a.used.now in
    observe-done u a.pauli a.qubit a.bit a.answer.now a.determined.now
    c.in_ok-argument_refusal.ensures refl _ _ _ c.measure_record-measured.ensures _ _ _
    (ap (bit_or a.used.now) c.single.ensures) c.outcome_number.ensures c.determined_number.ensures
