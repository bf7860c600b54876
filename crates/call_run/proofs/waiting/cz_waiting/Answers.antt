-- `cz_waiting` meets its contract: CZ on two qubits.
use mathlib.Core.Bool.{false, ◌||◌}
use mathlib.Core.Path.{ap₂, refl}
use lib.Dec.{eqb, leb}
use Rattle.buffers.proofs.RefusalLaws.{passed_on}
use Rattle.call_run.specs.internal.Waiting.{meant}
use Rattle.operations.specs.Used.{used_record}
use Rattle.operations.specs.Steps.{cz_on}
use Rattle.call_run.proofs.WaitingLaws.{cz-places, cz-stepped, numbered, ready_held, refused-step}
use Rattle.call_run.proofs.waiting.cz_waiting.Goals as goal

pub returns-in_err-argument_number : goal.returns-in_err-argument_number
returns-in_err-argument_number c =
    let l = c.args in
    let u = used_record l.n l.neighbours.now l.codes.now l.used in
    let R = passed_on _ _ c.from_residual.ensures.1 c.in_err-argument_number.ensures in
    refused-step l.waiting u c.requires (cz_on l.a l.b)
    (numbered (meant l.waiting u) c.requires.checked false (leb l.n l.a || (leb l.n l.b || eqb l.a l.b)) R.0
    (ap₂ ◌||◌ c.bit_at.ensures c.bit_at-2.ensures)) R.1

pub cz_unsettled-requires : goal.cz_unsettled-requires
cz_unsettled-requires c =
    let l = c.args in
    let u = used_record l.n l.neighbours.now l.codes.now l.used in
    let number = numbered (meant l.waiting u) c.requires.checked false (leb l.n l.a || (leb l.n l.b || eqb l.a l.b))
    c.in_ok-argument_number.ensures (ap₂ ◌||◌ c.bit_at.ensures c.bit_at-2.ensures) in
    let places = cz-places l.waiting u c.requires l.a l.b number refl in
    record { unrefused = ready_held l.waiting u c.requires; a_in_bounds = places }

pub returns : goal.returns
returns c =
    let l = c.args in
    let u = used_record l.n l.neighbours.now l.codes.now l.used in
    let number = numbered (meant l.waiting u) c.requires.checked false (leb l.n l.a || (leb l.n l.b || eqb l.a l.b))
    c.in_ok-argument_number.ensures (ap₂ ◌||◌ c.bit_at.ensures c.bit_at-2.ensures) in
    cz-stepped l.waiting u c.requires l.a l.b number refl _ _ c.cz_unsettled.ensures
