-- `measure_number` meets its contract: the first line of a measurement that holds.
use mathlib.Core.Bool.{◌||◌}
use mathlib.Core.Path.{refl}
use lib.Dec.{eqb, leb}
use Rattle.buffers.proofs.RefusalLaws.{passed_on}
use Rattle.call_run.specs.internal.Waiting.{meant}
use Rattle.operations.specs.Used.{used_record}
use Rattle.calls.proofs.MeasureLines.{arguments-refuse}
use Rattle.call_run.proofs.WaitingLaws.{asks-before, found-14, found_none, numbered}
use Rattle.call_run.proofs.waiting.measure_number.Goals as goal

pub returns-in_err-argument_number : goal.returns-in_err-argument_number
returns-in_err-argument_number c =
    let a = c.args in
    let u = used_record a.n a.neighbours.now a.codes.now a.used in
    let R = passed_on _ _ c.from_residual.ensures.1 c.in_err-argument_number.ensures in
    arguments-refuse (meant a.waiting u) a.pauli a.qubit a.outcome
    (numbered (meant a.waiting u) c.requires.checked (leb 2 a.outcome || (eqb a.pauli 0 || leb 4 a.pauli))
    (leb a.n a.qubit) R.0 c.bit_at-sixteen.ensures) R.1

pub contradicted-requires : goal.contradicted-requires
contradicted-requires c =
    let a = c.args in
    let u = used_record a.n a.neighbours.now a.codes.now a.used in
    let number = numbered (meant a.waiting u) c.requires.checked (leb 2 a.outcome || (eqb a.pauli 0 || leb 4 a.pauli))
    (leb a.n a.qubit) c.in_ok-argument_number.ensures c.bit_at-sixteen.ensures in
    let whole = asks-before a.waiting u c.requires a.pauli a.qubit a.outcome number refl in
    record { unrefused = whole.0; le_pauli = whole.1 }

pub returns-then-contradicted : goal.returns-then-contradicted
returns-then-contradicted c =
    let a = c.args in
    let u = used_record a.n a.neighbours.now a.codes.now a.used in
    let number = numbered (meant a.waiting u) c.requires.checked (leb 2 a.outcome || (eqb a.pauli 0 || leb 4 a.pauli))
    (leb a.n a.qubit) c.in_ok-argument_number.ensures c.bit_at-sixteen.ensures in
    found-14 a.waiting u c.requires a.pauli a.qubit a.outcome number refl c.contradicted.ensures c.if-contradicted.true

pub returns-else-contradicted : goal.returns-else-contradicted
returns-else-contradicted c =
    let a = c.args in
    let u = used_record a.n a.neighbours.now a.codes.now a.used in
    let number = numbered (meant a.waiting u) c.requires.checked (leb 2 a.outcome || (eqb a.pauli 0 || leb 4 a.pauli))
    (leb a.n a.qubit) c.in_ok-argument_number.ensures c.bit_at-sixteen.ensures in
    found_none a.waiting u c.requires a.pauli a.qubit a.outcome number refl c.contradicted.ensures
    c.if-contradicted.false
