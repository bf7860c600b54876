-- `save` meets its contract: the record saved under the name.
use mathlib.Core.Path.{◌∙◌, ap, refl}
use native.Mathlib.Omega.{arith}
use Rattle.buffers.proofs.RefusalLaws.{passed_on}
use Rattle.store.specs.Kept.{headed, placed_at}
use Rattle.store.specs.Places.{Store}
use Rattle.operations.specs.Used.{UsedRecord, used_record}
use Rattle.call_store.proofs.Saving.{head-fits, record-fits, save-done, save-full, save-refused}
use Rattle.call_store.proofs.save.Goals as goal

pub returns-in_err-save_refusal : goal.returns-in_err-save_refusal
returns-in_err-save_refusal c =
    let a = c.args in
    let u : UsedRecord = used_record a.n a.neighbours.now a.codes.now a.used in
    let st : Store = record { heads = a.heads.now; neighbours = a.held_neighbours.now; codes = a.held_codes.now } in
    let R = passed_on _ _ c.from_residual.ensures.1 c.in_err-save_refusal.ensures in
    save-refused u st _ _ R.0 R.1

pub returns-in_default : goal.returns-in_default
returns-in_default c =
    let a = c.args in
    let u : UsedRecord = used_record a.n a.neighbours.now a.codes.now a.used in
    let st : Store = record { heads = a.heads.now; neighbours = a.held_neighbours.now; codes = a.held_codes.now } in
    save-full u st _ _ c.in_ok-save_refusal.ensures refl _ c.in_default.ensures.place (omega arith)

pub put_head-requires : goal.put_head-requires
put_head-requires c =
    let a = c.args in
    let u : UsedRecord = used_record a.n a.neighbours.now a.codes.now a.used in
    let st : Store = record { heads = a.heads.now; neighbours = a.held_neighbours.now; codes = a.held_codes.now } in
    head-fits u st _ _ c.in_ok-save_refusal.ensures refl _ c.in-Some.ensures.place c.in-Some.ensures.within

pub put_record-requires : goal.put_record-requires
put_record-requires c =
    let a = c.args in
    let u : UsedRecord = used_record a.n a.neighbours.now a.codes.now a.used in
    let st : Store = record { heads = a.heads.now; neighbours = a.held_neighbours.now; codes = a.held_codes.now } in
    let whole = record-fits u st _ _ c.in_ok-save_refusal.ensures refl _ c.in-Some.ensures.place
    c.in-Some.ensures.within in
    record { i_bound = whole.0; neighbours_in_bounds = whole.1 }

pub returns : goal.returns
returns c =
    let a = c.args in
    let u : UsedRecord = used_record a.n a.neighbours.now a.codes.now a.used in
    let st : Store = record { heads = a.heads.now; neighbours = a.held_neighbours.now; codes = a.held_codes.now } in
    let place = c.in-Some.ensures.place in
    save-done u st _ _ c.in_ok-save_refusal.ensures refl _ place c.in-Some.ensures.within _ _ _
    (c.put_head.ensures ∙ ap (λ q. headed q a.n a.name a.used a.heads.now) place)
    (c.put_record.ensures.0 ∙ ap (λ q. placed_at q a.neighbours.now a.held_neighbours.now) place)
    (c.put_record.ensures.1 ∙ ap (λ q. placed_at q a.codes.now a.held_codes.now) place)
