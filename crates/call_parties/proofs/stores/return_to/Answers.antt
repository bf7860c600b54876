-- `return_to` meets its contract: the party's vertices as they are held under the name, put back.
use mathlib.Core.Path.{refl}
use native.Mathlib.Omega.{arith}
use Rattle.buffers.proofs.RefusalLaws.{passed_on}
use Rattle.store.specs.Places.{Store}
use Rattle.operations.specs.Used.{UsedRecord, used_record}
use Rattle.call_parties.proofs.Answering.{all_fit, return-done, return-not-held, return_refused, search-fits}
use Rattle.call_parties.proofs.stores.return_to.Goals as goal

pub returns-in_err-shared_refusal : goal.returns-in_err-shared_refusal
returns-in_err-shared_refusal c =
    let a = c.args in
    let u : UsedRecord = used_record a.n a.neighbours.now a.codes.now a.used.now in
    let st : Store = record { heads = a.heads.now; neighbours = a.held_neighbours.now; codes = a.held_codes.now } in
    let R = passed_on _ _ c.from_residual.ensures.1 c.in_err-shared_refusal.ensures in
    return_refused a.word a.party u a.name st _ R.0 R.1

pub own_find-requires : goal.own_find-requires
own_find-requires c =
    let a = c.args in
    let u : UsedRecord = used_record a.n a.neighbours.now a.codes.now a.used.now in
    let st : Store = record { heads = a.heads.now; neighbours = a.held_neighbours.now; codes = a.held_codes.now } in
    search-fits a.word a.party u a.name st _ c.in_ok-shared_refusal.ensures refl

pub returns-in_default : goal.returns-in_default
returns-in_default c =
    let a = c.args in
    let u : UsedRecord = used_record a.n a.neighbours.now a.codes.now a.used.now in
    let st : Store = record { heads = a.heads.now; neighbours = a.held_neighbours.now; codes = a.held_codes.now } in
    return-not-held a.word a.party u a.name st _ c.in_ok-shared_refusal.ensures refl _ c.in_default.ensures.place
    (omega arith)

pub take_merged-requires : goal.take_merged-requires
take_merged-requires c =
    let a = c.args in
    let u : UsedRecord = used_record a.n a.neighbours.now a.codes.now a.used.now in
    let st : Store = record { heads = a.heads.now; neighbours = a.held_neighbours.now; codes = a.held_codes.now } in
    let whole = all_fit a.word a.party u a.name st _ c.in_ok-shared_refusal.ensures refl _ c.in-Some.ensures.within in
    record { i_bound = whole.0; neighbours_len = whole.1 }

pub returns : goal.returns
returns c =
    let a = c.args in
    let u : UsedRecord = used_record a.n a.neighbours.now a.codes.now a.used.now in
    let st : Store = record { heads = a.heads.now; neighbours = a.held_neighbours.now; codes = a.held_codes.now } in
    return-done a.word a.party u a.name st _ c.in_ok-shared_refusal.ensures refl _ c.in-Some.ensures.place
    c.in-Some.ensures.within _ c.own_word-own.ensures _ c.word_at.ensures _ _ _ c.take_merged.ensures
    c.merge_used.ensures
