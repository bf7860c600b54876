-- `complement_known` meets its contract: local complementation at a vertex; the record is not reduced.
use mathlib.Core.Bool.{false}
use mathlib.Core.Path.{refl}
use lib.Dec.{leb}
use Rattle.buffers.proofs.Calling.{refused}
use Rattle.buffers.proofs.RefusalLaws.{passed_on}
use Rattle.operations.specs.Steps.{complement_of}
use Rattle.operations.specs.Used.{UsedRecord, used_record}
use Rattle.calls.proofs.InPlaceCalls.{as_before, in-place-done}
use Rattle.calls.proofs.InPlaceLines.{complement-ready}
use Rattle.calls.proofs.UsedInPlace.{named-as}
use Rattle.call_gates.proofs.complement.complement_known.Goals as goal

pub returns-in_err-in_place_refusal : goal.returns-in_err-in_place_refusal
returns-in_err-in_place_refusal c =
    let a = c.args in
    let u : UsedRecord = used_record a.n a.neighbours.now a.codes.now a.used in
    let R = passed_on _ _ c.from_residual.ensures.1 c.in_err-in_place_refusal.ensures in
    refused _ (named-as u false (leb a.n a.a) R.0 c.bit_at-sixteen.ensures) R.1 (refl, (refl, tt))

pub complement_record-requires : goal.complement_record-requires
complement_record-requires c =
    let a = c.args in
    let u : UsedRecord = used_record a.n a.neighbours.now a.codes.now a.used in
    let e = named-as u false (leb a.n a.a) c.in_ok-in_place_refusal.ensures c.bit_at-sixteen.ensures in
    complement-ready u.held a.a (as_before u (complement_of a.a) e refl)

pub returns : goal.returns
returns c =
    let a = c.args in
    let u : UsedRecord = used_record a.n a.neighbours.now a.codes.now a.used in
    let e = named-as u false (leb a.n a.a) c.in_ok-in_place_refusal.ensures c.bit_at-sixteen.ensures in
    in-place-done u (complement_of a.a) e refl
    c.complement_record.ensures.neighbours c.complement_record.ensures.numbers
