-- `shared_refusal` meets its contract: the first of the shared lines that holds.
use mathlib.Core.List.{[]}
use mathlib.Core.Path.{◌∙◌, refl, sym}
use Rattle.buffers.proofs.RefusalLaws.{passed_on}
use Rattle.parties_impl.proofs.OwnWords.{crosses-reads}
use Rattle.store.specs.Places.{Store}
use Rattle.operations.specs.Used.{UsedRecord, used_record}
use Rattle.call_parties.proofs.Sharing.{shared-2, shared-early, shared_last, words-fit}
use Rattle.call_parties.proofs.stores.shared_refusal.Goals as goal

pub returns-then-n-ne64 : goal.returns-then-n-ne64
returns-then-n-ne64 c =
    let a = c.args in
    let u : UsedRecord = used_record a.n a.neighbours.now a.codes.now a.used in
    let st : Store = record { heads = a.heads.now; neighbours = a.held_neighbours.now; codes = a.held_codes.now } in
    shared-2 a.word a.party u st c.if-n-ne64.true

pub returns-in_err-earlier_refusal : goal.returns-in_err-earlier_refusal
returns-in_err-earlier_refusal c =
    let a = c.args in
    let u : UsedRecord = used_record a.n a.neighbours.now a.codes.now a.used in
    let st : Store = record { heads = a.heads.now; neighbours = a.held_neighbours.now; codes = a.held_codes.now } in
    let R = passed_on _ _ c.from_residual.ensures.1 c.in_err-earlier_refusal.ensures in
    shared-early a.word a.party u st c.if-n-ne64.false _ _ _
    c.both_refusal-both.ensures c.party_number.ensures R.0 R.1

pub crosses-requires : goal.crosses-requires
crosses-requires c =
    let a = c.args in
    let u : UsedRecord = used_record a.n a.neighbours.now a.codes.now a.used in
    let st : Store = record { heads = a.heads.now; neighbours = a.held_neighbours.now; codes = a.held_codes.now } in
    words-fit a.word a.party u st c.if-n-ne64.false _ _ _
    c.both_refusal-both.ensures c.party_number.ensures c.in_ok-earlier_refusal.ensures refl

pub returns-then-crosses : goal.returns-then-crosses
returns-then-crosses c =
    let a = c.args in
    let u : UsedRecord = used_record a.n a.neighbours.now a.codes.now a.used in
    let st : Store = record { heads = a.heads.now; neighbours = a.held_neighbours.now; codes = a.held_codes.now } in
    shared_last a.word a.party u st c.if-n-ne64.false _ _ _
    c.both_refusal-both.ensures c.party_number.ensures c.in_ok-earlier_refusal.ensures refl _
    (sym c.if-crosses.true ∙ c.crosses.ensures
    ∙ crosses-reads (used_record 64 a.neighbours.now [] 0) u (sym c.if-n-ne64.false) refl a.word)

pub returns-else-crosses : goal.returns-else-crosses
returns-else-crosses c =
    let a = c.args in
    let u : UsedRecord = used_record a.n a.neighbours.now a.codes.now a.used in
    let st : Store = record { heads = a.heads.now; neighbours = a.held_neighbours.now; codes = a.held_codes.now } in
    shared_last a.word a.party u st c.if-n-ne64.false _ _ _
    c.both_refusal-both.ensures c.party_number.ensures c.in_ok-earlier_refusal.ensures refl _
    (sym c.if-crosses.false ∙ c.crosses.ensures
    ∙ crosses-reads (used_record 64 a.neighbours.now [] 0) u (sym c.if-n-ne64.false) refl a.word)
