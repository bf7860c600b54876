-- `expectation` meets its contract: the value of a Pauli row in a record's group.
use mathlib.Core.Path.{refl, sym, ◌∙◌}
use Rattle.buffers.proofs.Calling.{done, refused}
use Rattle.buffers.proofs.RefusalLaws.{passed_on}
use Rattle.operations.specs.Used.{UsedRecord, used_record}
use Rattle.calls.proofs.ExpectationLines.{accepted-row, words-joined}
use Rattle.call_readings.proofs.expectations.expectation.Goals as goal

pub returns-in_err-used_refusal : goal.returns-in_err-used_refusal
returns-in_err-used_refusal c =
    let a = c.args in
    let u : UsedRecord = used_record a.n a.neighbours.now a.codes.now a.used in
    let R = passed_on _ _ c.from_residual.ensures.1 c.in_err-used_refusal.ensures in
    refused _ (words-joined u a.z a.x R.0) R.1 (refl, tt)

pub row_value-requires : goal.row_value-requires
row_value-requires c =
    let a = c.args in
    let u : UsedRecord = used_record a.n a.neighbours.now a.codes.now a.used in
    let A = accepted-row u a.z a.x (sym (words-joined u a.z a.x c.in_ok-used_refusal.ensures)) in
    record { accepted_record = A.held; z_bound = (A.z-below, A.x_below) }

pub returns : goal.returns
returns c =
    let a = c.args in
    let u : UsedRecord = used_record a.n a.neighbours.now a.codes.now a.used in
    done _ (words-joined u a.z a.x c.in_ok-used_refusal.ensures) refl (c.value_number.ensures ∙ c.row_value.ensures, tt)
