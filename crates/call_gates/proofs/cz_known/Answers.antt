-- `cz_known` meets its contract: CZ on two qubits, and the reduced record.
use mathlib.Core.Bool.{false, ◌||◌}
use mathlib.Core.Path.{ap₂, refl}
use lib.Dec.{eqb, leb}
use Rattle.buffers.proofs.Calling.{refused}
use Rattle.buffers.proofs.RefusalLaws.{passed_on}
use Rattle.operations.proofs.UnrefusedRecords.{unrefused-codes}
use Rattle.operations.specs.Steps.{cz_on}
use Rattle.operations.specs.Used.{UsedRecord, used_record}
use Rattle.calls.proofs.InPlaceCalls.{as_before, in-place-done}
use Rattle.calls.proofs.InPlaceLines.{cz-ready}
use Rattle.call_gates.proofs.KnownRecords.{marked-words, known-codes}
use Rattle.calls.proofs.UsedInPlace.{named-as}
use Rattle.call_gates.proofs.cz_known.Goals as goal

pub first_look-seen-requires : goal.first_look-seen-requires
first_look-seen-requires c =
    let a = c.args in
    known-codes (used_record a.n a.neighbours.now a.codes.now a.used) c.requires

pub returns-in_err-in_place_number : goal.returns-in_err-in_place_number
returns-in_err-in_place_number c =
    let a = c.args in
    let u : UsedRecord = used_record a.n a.neighbours.now a.codes.now a.used in
    let R = passed_on _ _ c.from_residual.ensures.1 c.in_err-in_place_number.ensures in
    refused _ (named-as u false (leb a.n a.a || (leb a.n a.b || eqb a.a a.b)) R.0
    (ap₂ ◌||◌ c.bit_at.ensures c.bit_at-2.ensures)) R.1 (refl, (refl, tt))

pub found-touched-requires : goal.found-touched-requires
found-touched-requires c =
    let a = c.args in
    let u : UsedRecord = used_record a.n a.neighbours.now a.codes.now a.used in
    let e = named-as u false (leb a.n a.a || (leb a.n a.b || eqb a.a a.b)) c.in_ok-in_place_number.ensures
    (ap₂ ◌||◌ c.bit_at.ensures c.bit_at-2.ensures) in
    let ready = cz-ready u.held a.a a.b (as_before u (cz_on a.a a.b) e refl) in
    record { codes_len_bound = unrefused-codes _ _ ready.0; found = c.first_look-seen.ensures.found }

pub cz_record-requires : goal.cz_record-requires
cz_record-requires c =
    let a = c.args in
    let u : UsedRecord = used_record a.n a.neighbours.now a.codes.now a.used in
    let e = named-as u false (leb a.n a.a || (leb a.n a.b || eqb a.a a.b)) c.in_ok-in_place_number.ensures
    (ap₂ ◌||◌ c.bit_at.ensures c.bit_at-2.ensures) in
    let ready = cz-ready u.held a.a a.b (as_before u (cz_on a.a a.b) e refl) in
    record {
      unrefused = ready.0;
      a_in_bounds = ready.1;
      suspected = marked-words _ _ _ ready.0 c.found-touched.ensures;
    }

pub returns : goal.returns
returns c =
    let a = c.args in
    let u : UsedRecord = used_record a.n a.neighbours.now a.codes.now a.used in
    let e = named-as u false (leb a.n a.a || (leb a.n a.b || eqb a.a a.b)) c.in_ok-in_place_number.ensures
    (ap₂ ◌||◌ c.bit_at.ensures c.bit_at-2.ensures) in
    in-place-done u (cz_on a.a a.b) e refl c.cz_record.ensures.neighbours c.cz_record.ensures.numbers
