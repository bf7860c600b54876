-- `measure_waiting` meets its contract: a Pauli measured at a qubit, which is marked as used.
use mathlib.Core.Path.{ap, refl, subst, sym}
use lib.Bits.{bit_or}
use Rattle.buffers.proofs.RefusalLaws.{refuses}
use Rattle.jobs.specs.declared.Answer.{Answer}
use Rattle.operations.specs.Used.{used_record}
use Rattle.call_run.specs.internal.Waiting.{MeasuredStep}
use Rattle.call_run.proofs.WaitingLaws.{measure-asks, measure-below, measure-stepped, refused-measurement}
use Rattle.call_run.proofs.waiting.measure_waiting.Goals as goal

pub returns-in-Err : goal.returns-in-Err
returns-in-Err c =
    let a = c.args in
    let u = used_record a.n a.neighbours.now a.codes.now a.used.now in
    subst (λ (r : Answer). MeasuredStep a.waiting u a.pauli a.qubit a.outcome a.neighbours.now a.codes.now a.used.now
    r.outcome r.determined r.refusal) (sym c.refused.ensures)
    (refused-measurement a.waiting u c.requires a.pauli a.qubit a.outcome c.in-Err.ensures (refuses c.in-Err.refusal))

pub measure_unsettled-measured-requires : goal.measure_unsettled-measured-requires
measure_unsettled-measured-requires c =
    let a = c.args in
    let whole = measure-asks a.waiting (used_record a.n a.neighbours.now a.codes.now a.used.now) c.requires a.pauli
    a.qubit a.outcome c.in_default.ensures refl in
    record { unrefused = whole.0; le_pauli = whole.1 }

pub single-requires : goal.single-requires
single-requires c =
    let a = c.args in
    measure-below a.waiting (used_record a.n a.neighbours.now a.codes.now a.used.now) c.requires a.pauli a.qubit
    a.outcome c.in_default.ensures refl

pub returns : goal.returns
returns c =
    let a = c.args in
    measure-stepped a.waiting (used_record a.n a.neighbours.now a.codes.now a.used.now) c.requires a.pauli a.qubit
    a.outcome c.in_default.ensures refl _ _ _ _ _ _
    c.measure_unsettled-measured.ensures.group_held c.measure_unsettled-measured.ensures.value
    (ap (bit_or a.used.now) c.single.ensures) c.outcome_number-answered.ensures c.determined_number-found.ensures
