-- `gate_waiting` meets its contract: a code applied after the code held at a qubit.
use mathlib.Core.Path.{refl}
use lib.Dec.{leb}
use Rattle.buffers.proofs.RefusalLaws.{passed_on}
use Rattle.call_run.specs.internal.Waiting.{meant}
use Rattle.operations.specs.Used.{used_record}
use Rattle.operations.specs.Steps.{gate_with}
use Rattle.call_run.proofs.WaitingLaws.{gate-place, gate-stepped, numbered, ready_held, refused-step}
use Rattle.call_run.proofs.waiting.gate_waiting.Goals as goal

pub returns-in_err-argument_number : goal.returns-in_err-argument_number
returns-in_err-argument_number c =
    let a = c.args in
    let u = used_record a.n a.neighbours.now a.codes.now a.used in
    let R = passed_on _ _ c.from_residual.ensures.1 c.in_err-argument_number.ensures in
    refused-step a.waiting u c.requires (gate_with a.qubit a.code)
    (numbered (meant a.waiting u) c.requires.checked (leb 24 a.code) (leb a.n a.qubit) R.0 c.bit_at-sixteen.ensures) R.1

pub gate_unsettled-requires : goal.gate_unsettled-requires
gate_unsettled-requires c =
    let a = c.args in
    let u = used_record a.n a.neighbours.now a.codes.now a.used in
    let number = numbered (meant a.waiting u) c.requires.checked (leb 24 a.code) (leb a.n a.qubit)
    c.in_ok-argument_number.ensures c.bit_at-sixteen.ensures in
    let place = gate-place a.waiting u c.requires a.qubit a.code number refl in
    record { unrefused = ready_held a.waiting u c.requires; q_in_bounds = place }

pub returns : goal.returns
returns c =
    let a = c.args in
    let u = used_record a.n a.neighbours.now a.codes.now a.used in
    let number = numbered (meant a.waiting u) c.requires.checked (leb 24 a.code) (leb a.n a.qubit)
    c.in_ok-argument_number.ensures c.bit_at-sixteen.ensures in
    gate-stepped a.waiting u c.requires a.qubit a.code number refl _ c.gate_unsettled.ensures
