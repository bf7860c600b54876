-- `measure_refusal` meets its contract: the first line of a measurement that holds: those of its arguments, and 14
-- where a determined outcome contradicts the supplied bit.
use mathlib.Core.Path.{refl, sym}
use Rattle.buffers.proofs.RefusalLaws.{passed_on}
use Rattle.calls.proofs.InPlaceLines.{measure-ready}
use Rattle.calls.proofs.MeasureLines.{arguments-before, arguments-refuse, then-14, then-none}
use Rattle.operations.specs.Used.{UsedRecord, used_record}
use Rattle.call_gates.proofs.measure.measure_refusal.Goals as goal

pub returns-in_err-argument_refusal : goal.returns-in_err-argument_refusal
returns-in_err-argument_refusal c =
    let a = c.args in
    let u : UsedRecord = used_record a.n a.neighbours.now a.codes.now a.used in
    let R = passed_on _ _ c.from_residual.ensures.1 c.in_err-argument_refusal.ensures in
    arguments-refuse u a.pauli a.qubit a.outcome R.0 R.1

pub contradicted-requires : goal.contradicted-requires
contradicted-requires c =
    let a = c.args in
    let u : UsedRecord = used_record a.n a.neighbours.now a.codes.now a.used in
    let whole = measure-ready u.held a.pauli a.qubit a.outcome
    (arguments-before u a.pauli a.qubit a.outcome (sym c.in_ok-argument_refusal.ensures)) in
    record { unrefused = whole.0; le_pauli = whole.1 }

pub returns-then-contradicted : goal.returns-then-contradicted
returns-then-contradicted c =
    let a = c.args in
    let u : UsedRecord = used_record a.n a.neighbours.now a.codes.now a.used in
    then-14 u a.pauli a.qubit a.outcome c.in_ok-argument_refusal.ensures refl c.contradicted.ensures
    c.if-contradicted.true

pub returns-else-contradicted : goal.returns-else-contradicted
returns-else-contradicted c =
    let a = c.args in
    let u : UsedRecord = used_record a.n a.neighbours.now a.codes.now a.used in
    then-none u a.pauli a.qubit a.outcome c.in_ok-argument_refusal.ensures refl c.contradicted.ensures
    c.if-contradicted.false
