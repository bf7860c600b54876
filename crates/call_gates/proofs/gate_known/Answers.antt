-- `gate_known` meets its contract: a code applied after the code held at a qubit, and the reduced record.
use mathlib.Core.Path.{refl}
use lib.Dec.{leb}
use Rattle.buffers.proofs.Calling.{refused}
use Rattle.buffers.proofs.RefusalLaws.{passed_on}
use Rattle.operations.proofs.UnrefusedRecords.{unrefused-codes}
use Rattle.operations.specs.Steps.{gate_with}
use Rattle.operations.specs.Used.{UsedRecord, used_record}
use Rattle.calls.proofs.InPlaceCalls.{as_before, in-place-done}
use Rattle.calls.proofs.InPlaceLines.{gate-ready}
use Rattle.call_gates.proofs.KnownRecords.{marked-words, known-codes}
use Rattle.calls.proofs.UsedInPlace.{named-as}
use Rattle.call_gates.proofs.gate_known.Goals as goal

pub first_look-seen-requires : goal.first_look-seen-requires
first_look-seen-requires c =
    let a = c.args in
    known-codes (used_record a.n a.neighbours.now a.codes.now a.used) c.requires

pub returns-in_err-in_place_number : goal.returns-in_err-in_place_number
returns-in_err-in_place_number c =
    let a = c.args in
    let u : UsedRecord = used_record a.n a.neighbours.now a.codes.now a.used in
    let R = passed_on _ _ c.from_residual.ensures.1 c.in_err-in_place_number.ensures in
    refused _ (named-as u (leb 24 a.code) (leb a.n a.qubit) R.0 c.bit_at-sixteen.ensures) R.1 (refl, (refl, tt))

pub found-touched-requires : goal.found-touched-requires
found-touched-requires c =
    let a = c.args in
    let u : UsedRecord = used_record a.n a.neighbours.now a.codes.now a.used in
    let e = named-as u (leb 24 a.code) (leb a.n a.qubit) c.in_ok-in_place_number.ensures c.bit_at-sixteen.ensures in
    let ready = gate-ready u.held a.qubit a.code (as_before u (gate_with a.qubit a.code) e refl) in
    record { codes_len_bound = unrefused-codes _ _ ready.0; found = c.first_look-seen.ensures.found }

pub gate_record-requires : goal.gate_record-requires
gate_record-requires c =
    let a = c.args in
    let u : UsedRecord = used_record a.n a.neighbours.now a.codes.now a.used in
    let e = named-as u (leb 24 a.code) (leb a.n a.qubit) c.in_ok-in_place_number.ensures c.bit_at-sixteen.ensures in
    let ready = gate-ready u.held a.qubit a.code (as_before u (gate_with a.qubit a.code) e refl) in
    record {
      unrefused = ready.0;
      q_in_bounds = ready.1;
      suspected = marked-words _ _ _ ready.0 c.found-touched.ensures;
    }

pub returns : goal.returns
returns c =
    let a = c.args in
    let u : UsedRecord = used_record a.n a.neighbours.now a.codes.now a.used in
    let e = named-as u (leb 24 a.code) (leb a.n a.qubit) c.in_ok-in_place_number.ensures c.bit_at-sixteen.ensures in
    in-place-done u (gate_with a.qubit a.code) e refl c.gate_record.ensures.neighbours c.gate_record.ensures.numbers
