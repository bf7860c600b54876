-- `return_to` meets its contract: the record held under the name, brought back.
use mathlib.Core.Bool.{◌||◌}
use mathlib.Core.Path.{◌∙◌, ap, ap₂, refl}
use native.Mathlib.Omega.{arith}
use Rattle.buffers.proofs.RefusalLaws.{passed_on}
use Rattle.buffers.specs.Refusals.{first_fitting}
use Rattle.store.specs.Places.{Store}
use Rattle.store.specs.StoreLines.{store_lines}
use Rattle.call_store.proofs.Named.{return-done, return-not-held, return_refused, take-fits}
use Rattle.call_store.proofs.return_to.Goals as goal

pub returns-in_err-store_refusal : goal.returns-in_err-store_refusal
returns-in_err-store_refusal c =
    let a = c.args in
    let st : Store = record { heads = a.heads.now; neighbours = a.held_neighbours.now; codes = a.held_codes.now } in
    let R = passed_on _ _ c.from_residual.ensures.1 c.in_err-store_refusal.ensures in
    let early = R.0 ∙ ap (λ b. first_fitting (store_lines 8 st b))
    (ap₂ ◌||◌ c.other_than.ensures c.other_than-2.ensures) in
    return_refused _ st _ a.neighbours.now a.codes.now _ _ early R.1

pub returns-in_default : goal.returns-in_default
returns-in_default c =
    let a = c.args in
    let st : Store = record { heads = a.heads.now; neighbours = a.held_neighbours.now; codes = a.held_codes.now } in
    let early = c.in_ok-store_refusal.ensures ∙ ap (λ b. first_fitting (store_lines 8 st b))
    (ap₂ ◌||◌ c.other_than.ensures c.other_than-2.ensures) in
    return-not-held _ st _ a.neighbours.now a.codes.now _ _ early refl _ c.in_default.ensures.place (omega arith)

pub take_record-requires : goal.take_record-requires
take_record-requires c =
    let a = c.args in
    let st : Store = record { heads = a.heads.now; neighbours = a.held_neighbours.now; codes = a.held_codes.now } in
    let early = c.in_ok-store_refusal.ensures ∙ ap (λ b. first_fitting (store_lines 8 st b))
    (ap₂ ◌||◌ c.other_than.ensures c.other_than-2.ensures) in
    let whole = take-fits a.name st a.n.now a.neighbours.now a.codes.now a.used.now _ early refl _
    c.in-Some.ensures.place c.in-Some.ensures.within _ c.word_at-count.ensures in
    record { i_bound = whole.0; n_in_bounds = whole.1 }

pub returns : goal.returns
returns c =
    let a = c.args in
    let st : Store = record { heads = a.heads.now; neighbours = a.held_neighbours.now; codes = a.held_codes.now } in
    let early = c.in_ok-store_refusal.ensures ∙ ap (λ b. first_fitting (store_lines 8 st b))
    (ap₂ ◌||◌ c.other_than.ensures c.other_than-2.ensures) in
    return-done _ st _ a.neighbours.now a.codes.now _ _ early refl _ c.in-Some.ensures.place c.in-Some.ensures.within
    _ c.word_at-count.ensures _ _ _ c.take_record.ensures.0 c.take_record.ensures.1 c.word_at.ensures
