-- `save` meets its contract: the party's vertices saved under the name.
use mathlib.Core.Path.{refl}
use native.Mathlib.Omega.{arith}
use Rattle.buffers.proofs.RefusalLaws.{passed_on}
use Rattle.store.specs.Places.{Store}
use Rattle.operations.specs.Used.{UsedRecord, used_record}
use Rattle.call_parties.proofs.Answering.{put-fits, save-done, save-full, save-refused, search-fits}
use Rattle.call_parties.proofs.stores.save.Goals as goal

pub returns-in_err-shared_refusal : goal.returns-in_err-shared_refusal
returns-in_err-shared_refusal c =
    let a = c.args in
    let u : UsedRecord = used_record a.n a.neighbours.now a.codes.now a.used in
    let st : Store = record { heads = a.heads.now; neighbours = a.held_neighbours.now; codes = a.held_codes.now } in
    let R = passed_on _ _ c.from_residual.ensures.1 c.in_err-shared_refusal.ensures in
    save-refused a.word a.party u a.name st _ R.0 R.1

pub own_place_for-requires : goal.own_place_for-requires
own_place_for-requires c =
    let a = c.args in
    let u : UsedRecord = used_record a.n a.neighbours.now a.codes.now a.used in
    let st : Store = record { heads = a.heads.now; neighbours = a.held_neighbours.now; codes = a.held_codes.now } in
    search-fits a.word a.party u a.name st _ c.in_ok-shared_refusal.ensures refl

pub returns-in_default : goal.returns-in_default
returns-in_default c =
    let a = c.args in
    let u : UsedRecord = used_record a.n a.neighbours.now a.codes.now a.used in
    let st : Store = record { heads = a.heads.now; neighbours = a.held_neighbours.now; codes = a.held_codes.now } in
    save-full a.word a.party u a.name st _ c.in_ok-shared_refusal.ensures refl _ c.in_default.ensures.place
    (omega arith)

pub put_masked-requires : goal.put_masked-requires
put_masked-requires c =
    let a = c.args in
    let u : UsedRecord = used_record a.n a.neighbours.now a.codes.now a.used in
    let st : Store = record { heads = a.heads.now; neighbours = a.held_neighbours.now; codes = a.held_codes.now } in
    let whole = put-fits a.word a.party u a.name st _ c.in_ok-shared_refusal.ensures refl _ c.in-Some.ensures.place
    c.in-Some.ensures.within in
    record { i_bound = whole.0; heads_len = whole.1 }

pub returns : goal.returns
returns c =
    let a = c.args in
    let u : UsedRecord = used_record a.n a.neighbours.now a.codes.now a.used in
    let st : Store = record { heads = a.heads.now; neighbours = a.held_neighbours.now; codes = a.held_codes.now } in
    save-done a.word a.party u a.name st _ c.in_ok-shared_refusal.ensures refl _ c.in-Some.ensures.place
    c.in-Some.ensures.within _ c.own_word.ensures _ c.put_masked.ensures
