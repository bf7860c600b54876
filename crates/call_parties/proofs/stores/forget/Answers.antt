-- `forget` meets its contract: the party's place of the name made free.
use mathlib.Core.Path.{refl}
use native.Mathlib.Omega.{arith}
use Rattle.buffers.proofs.RefusalLaws.{passed_on}
use Rattle.store.specs.Places.{Store}
use Rattle.operations.specs.Used.{UsedRecord, used_record}
use Rattle.call_parties.proofs.Answering.{forget-done, forget-not-held, forget-refused, head-inside, search-fits}
use Rattle.call_parties.proofs.stores.forget.Goals as goal

pub returns-in_err-shared_refusal : goal.returns-in_err-shared_refusal
returns-in_err-shared_refusal c =
    let a = c.args in
    let u : UsedRecord = used_record a.n a.neighbours.now a.codes.now a.used in
    let st : Store = record { heads = a.heads.now; neighbours = a.held_neighbours.now; codes = a.held_codes.now } in
    let R = passed_on _ _ c.from_residual.ensures.1 c.in_err-shared_refusal.ensures in
    forget-refused a.word a.party u a.name st _ R.0 R.1

pub own_find-requires : goal.own_find-requires
own_find-requires c =
    let a = c.args in
    let u : UsedRecord = used_record a.n a.neighbours.now a.codes.now a.used in
    let st : Store = record { heads = a.heads.now; neighbours = a.held_neighbours.now; codes = a.held_codes.now } in
    search-fits a.word a.party u a.name st _ c.in_ok-shared_refusal.ensures refl

pub returns-in_default : goal.returns-in_default
returns-in_default c =
    let a = c.args in
    let u : UsedRecord = used_record a.n a.neighbours.now a.codes.now a.used in
    let st : Store = record { heads = a.heads.now; neighbours = a.held_neighbours.now; codes = a.held_codes.now } in
    forget-not-held a.word a.party u a.name st _ c.in_ok-shared_refusal.ensures refl _ c.in_default.ensures.place
    (omega arith)

pub bounds-heads-party : goal.bounds-heads-party
bounds-heads-party c =
    let a = c.args in
    let u : UsedRecord = used_record a.n a.neighbours.now a.codes.now a.used in
    let st : Store = record { heads = a.heads.now; neighbours = a.held_neighbours.now; codes = a.held_codes.now } in
    head-inside a.word a.party u a.name st _ c.in_ok-shared_refusal.ensures refl _ c.in-Some.ensures.place
    c.in-Some.ensures.within

pub returns : goal.returns
returns c =
    let a = c.args in
    let u : UsedRecord = used_record a.n a.neighbours.now a.codes.now a.used in
    let st : Store = record { heads = a.heads.now; neighbours = a.held_neighbours.now; codes = a.held_codes.now } in
    forget-done a.word a.party u a.name st _ c.in_ok-shared_refusal.ensures refl _ c.in-Some.ensures.place
    c.in-Some.ensures.within
