-- `own_refusal` meets its contract: the first line that holds of the store as a party looks at it.
use mathlib.Core.Path.{◌∙◌, sym}
use Rattle.parties.specs.Masks.{in_party}
use Rattle.store.specs.Places.{Store}
use Rattle.parties_impl.proofs.OwnNumbers.{own-2, own-4, own-answer, own-none, places-fit}
use Rattle.parties_impl.proofs.checks.own_refusal.Goals as goal

pub returns-then-other_count : goal.returns-then-other_count
returns-then-other_count c =
    let a = c.args in
    let st : Store = record { heads = a.heads.now; neighbours = a.neighbours.now; codes = a.codes.now } in
    own-2 (in_party a.word a.party) a.party st
    (sym c.other_count.ensures ∙ c.if-other_count.true)

pub returns-then-wrong_lengths : goal.returns-then-wrong_lengths
returns-then-wrong_lengths c =
    let a = c.args in
    let st : Store = record { heads = a.heads.now; neighbours = a.neighbours.now; codes = a.codes.now } in
    own-4 (in_party a.word a.party) a.party st
    (sym c.other_count.ensures ∙ c.if-other_count.false) (sym c.wrong_lengths.ensures ∙ c.if-wrong_lengths.true)

pub returns-then-party-gt1 : goal.returns-then-party-gt1
returns-then-party-gt1 c =
    let a = c.args in
    let st : Store = record { heads = a.heads.now; neighbours = a.neighbours.now; codes = a.codes.now } in
    own-none (in_party a.word a.party) a.party st
    (sym c.other_count.ensures ∙ c.if-other_count.false) (sym c.wrong_lengths.ensures ∙ c.if-wrong_lengths.false)
    c.if-party-gt1.true

pub places_refusal-requires : goal.places_refusal-requires
places_refusal-requires c =
    let a = c.args in
    let st : Store = record { heads = a.heads.now; neighbours = a.neighbours.now; codes = a.codes.now } in
    let whole = places-fit a.party st (sym c.other_count.ensures ∙ c.if-other_count.false)
    (sym c.wrong_lengths.ensures ∙ c.if-wrong_lengths.false) c.if-party-gt1.false in
    record { codes_value = whole.0; neighbours_len = whole.1 }

pub returns : goal.returns
returns c =
    let a = c.args in
    let st : Store = record { heads = a.heads.now; neighbours = a.neighbours.now; codes = a.codes.now } in
    own-answer a.word a.party st (sym c.other_count.ensures ∙ c.if-other_count.false)
    (sym c.wrong_lengths.ensures ∙ c.if-wrong_lengths.false) c.if-party-gt1.false _ c.own_word.ensures _
    c.places_refusal.ensures
