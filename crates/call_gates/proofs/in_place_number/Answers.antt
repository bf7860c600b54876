-- `in_place_number` meets its contract: the first line of a record that holds, then 8 where `eight` does, then 16 where
-- `sixteen` does; `six`: line 6 holds of a further argument; `known`: no line of the record alone holds.
use mathlib.Core.Path.{refl}
use Rattle.buffers.proofs.RefusalLaws.{passed_on}
use Rattle.operations.specs.Used.{UsedRecord, used_record}
use Rattle.calls.proofs.UsedInPlace.{record-refused, then-0, then-16, then-8}
use Rattle.call_gates.proofs.in_place_number.Goals as goal

pub returns-in_err-known_number : goal.returns-in_err-known_number
returns-in_err-known_number c =
    let a = c.args in
    let u : UsedRecord = used_record a.n a.neighbours.now a.codes.now a.used in
    let R = passed_on _ _ c.from_residual.ensures.1 c.in_err-known_number.ensures in
    record-refused u a.six R.0 a.eight a.sixteen R.1

pub returns-then-eight : goal.returns-then-eight
returns-then-eight c =
    let a = c.args in
    let u : UsedRecord = used_record a.n a.neighbours.now a.codes.now a.used in
    then-8 u a.six c.in_ok-known_number.ensures a.eight a.sixteen refl c.if-eight.true

pub returns-then-sixteen : goal.returns-then-sixteen
returns-then-sixteen c =
    let a = c.args in
    let u : UsedRecord = used_record a.n a.neighbours.now a.codes.now a.used in
    then-16 u a.six c.in_ok-known_number.ensures a.eight a.sixteen refl c.if-eight.false c.if-sixteen.true

pub returns-else-sixteen : goal.returns-else-sixteen
returns-else-sixteen c =
    let a = c.args in
    let u : UsedRecord = used_record a.n a.neighbours.now a.codes.now a.used in
    then-0 u a.six c.in_ok-known_number.ensures a.eight a.sixteen refl c.if-eight.false c.if-sixteen.false
