-- `places_refusal` meets its contract: the number of four places, then 7 for a neighbour outside the word.
use mathlib.Core.Path.{◌∙◌, refl, sym}
use Rattle.buffers.proofs.RefusalLaws.{passed_on}
use Rattle.store.specs.Places.{Store}
use Rattle.words.specs.Bits.{bit}
use Rattle.parties_impl.proofs.OwnNumbers.{codes-unread, places-early, places-last}
use Rattle.parties_impl.proofs.checks.places_refusal.Goals as goal

pub returns-in_err-store_refusal : goal.returns-in_err-store_refusal
returns-in_err-store_refusal c =
    let a = c.args in
    let st : Store = record { heads = a.heads.now; neighbours = a.neighbours.now; codes = a.codes.now } in
    let R = passed_on _ _ c.from_residual.ensures.1 c.in_err-store_refusal.ensures in
    places-early (bit a.own) st _ R.0 R.1

pub returns-then-held_out : goal.returns-then-held_out
returns-then-held_out c =
    let a = c.args in
    let st : Store = record { heads = a.heads.now; neighbours = a.neighbours.now; codes = a.codes.now } in
    places-last (bit a.own) st _ c.in_ok-store_refusal.ensures refl
    (sym c.if-held_out.true ∙ c.held_out.ensures
    ∙ codes-unread (bit a.own) a.heads.now a.neighbours.now a.codes.now)

pub returns-else-held_out : goal.returns-else-held_out
returns-else-held_out c =
    let a = c.args in
    let st : Store = record { heads = a.heads.now; neighbours = a.neighbours.now; codes = a.codes.now } in
    places-last (bit a.own) st _ c.in_ok-store_refusal.ensures refl
    (sym c.if-held_out.false ∙ c.held_out.ensures
    ∙ codes-unread (bit a.own) a.heads.now a.neighbours.now a.codes.now)
