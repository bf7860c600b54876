-- `observe_waiting` meets its contract: a Pauli measured at a qubit with a bit by lot, which is marked as used.
use mathlib.Core.Bool.{◌||◌}
use mathlib.Core.Path.{ap, refl, subst, sym}
use lib.Bits.{bit_or}
use lib.Dec.{eqb, leb}
use Rattle.buffers.proofs.RefusalLaws.{refuses}
use Rattle.jobs.specs.declared.Answer.{Answer}
use Rattle.call_run.specs.internal.Waiting.{ObservedStep, meant}
use Rattle.operations.specs.Used.{used_record}
use Rattle.call_run.proofs.WaitingLaws.{asks-before, numbered, observe-below, observe-stepped, refused-observation}
use Rattle.call_run.proofs.waiting.observe_waiting.Goals as goal

pub returns-in-Err : goal.returns-in-Err
returns-in-Err c =
    let a = c.args in
    let u = used_record a.n a.neighbours.now a.codes.now a.used.now in
    let number = numbered (meant a.waiting u) c.requires.checked (leb 2 a.bit || (eqb a.pauli 0 || leb 4 a.pauli))
    (leb a.n a.qubit) c.in-Err.ensures c.bit_at-sixteen.ensures in
    subst (λ (r : Answer). ObservedStep a.waiting u a.pauli a.qubit a.bit a.neighbours.now a.codes.now a.used.now
    r.outcome r.determined r.refusal) (sym c.refused.ensures)
    (refused-observation a.waiting u c.requires a.pauli a.qubit a.bit number (refuses c.in-Err.refusal))

pub measure_unsettled-measured-requires : goal.measure_unsettled-measured-requires
measure_unsettled-measured-requires c =
    let a = c.args in
    let u = used_record a.n a.neighbours.now a.codes.now a.used.now in
    let number = numbered (meant a.waiting u) c.requires.checked (leb 2 a.bit || (eqb a.pauli 0 || leb 4 a.pauli))
    (leb a.n a.qubit) c.in_default.ensures c.bit_at-sixteen.ensures in
    let whole = asks-before a.waiting u c.requires a.pauli a.qubit a.bit number refl in
    record { unrefused = whole.0; le_pauli = whole.1 }

pub single-requires : goal.single-requires
single-requires c =
    let a = c.args in
    let u = used_record a.n a.neighbours.now a.codes.now a.used.now in
    let number = numbered (meant a.waiting u) c.requires.checked (leb 2 a.bit || (eqb a.pauli 0 || leb 4 a.pauli))
    (leb a.n a.qubit) c.in_default.ensures c.bit_at-sixteen.ensures in
    observe-below a.waiting u c.requires a.pauli a.qubit a.bit number refl

pub returns : goal.returns
returns c =
    let a = c.args in
    let u = used_record a.n a.neighbours.now a.codes.now a.used.now in
    let number = numbered (meant a.waiting u) c.requires.checked (leb 2 a.bit || (eqb a.pauli 0 || leb 4 a.pauli))
    (leb a.n a.qubit) c.in_default.ensures c.bit_at-sixteen.ensures in
    observe-stepped a.waiting u c.requires a.pauli a.qubit a.bit number refl _ _ _ _ _ _
    c.measure_unsettled-measured.ensures.group_held c.measure_unsettled-measured.ensures.value
    (ap (bit_or a.used.now) c.single.ensures) c.outcome_number-told.ensures c.determined_number-known.ensures
