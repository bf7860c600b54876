-- `measured_within` meets its contract: a measurement on the copy of the party's vertices, which are put back.
use mathlib.Core.Path.{◌∙◌, refl, subst, sym}
use Rattle.buffers.proofs.RefusalLaws.{passed_on}
use Rattle.buffers.specs.Calls.{Call}
use Rattle.operations.specs.Used.{UsedRecord, used_record}
use Rattle.call_parties.proofs.PartyCalls.{copied-whole, copy-unrefused, lent-64, measure-done, measure-refused}
use Rattle.call_parties.proofs.PartySourceCalls.{observe-done, observe-refused}
use Rattle.call_parties.proofs.measured_within.Goals as goal

pub take_party-own_used-requires-clause-neighbours_len : goal.take_party-own_used-requires-clause-neighbours_len
take_party-own_used-requires-clause-neighbours_len g c =
    let a = c.args in
    let u : UsedRecord = used_record a.n a.neighbours.now a.codes.now a.used.now in
    lent-64 a.word a.party u c.requires.apart

pub step-requires : goal.step-requires
step-requires g c =
    let a = c.args in
    let u : UsedRecord = used_record a.n a.neighbours.now a.codes.now a.used.now in
    let copied = copied-whole a.word a.party u c.requires.apart _ _ _ c.take_party-own_used.ensures in
    c.requires.callable _ _ _ _ _ (copy-unrefused a.word a.party u c.requires.apart copied)

pub returns-in_err-step-clause-measured : goal.returns-in_err-step-clause-measured
returns-in_err-step-clause-measured g c = λ pauli q b A h.
    let a = c.args in
    let u : UsedRecord = used_record a.n a.neighbours.now a.codes.now a.used.now in
    let copied = copied-whole a.word a.party u c.requires.apart _ _ _ c.take_party-own_used.ensures in
    let R = passed_on _ _ c.from_residual.ensures.1 refl in
    subst (Call _) (sym R.0)
    (measure-refused a.word a.party u pauli q b A copied (h _ _ _ _ _ _ _ _ _ _ _ c.in_err-step.ensures)
    (λ z. R.1 (R.0 ∙ z)))

pub returns-in_err-step-clause-observed : goal.returns-in_err-step-clause-observed
returns-in_err-step-clause-observed g c = λ pauli q b A h.
    let a = c.args in
    let u : UsedRecord = used_record a.n a.neighbours.now a.codes.now a.used.now in
    let copied = copied-whole a.word a.party u c.requires.apart _ _ _ c.take_party-own_used.ensures in
    let R = passed_on _ _ c.from_residual.ensures.1 refl in
    subst (Call _) (sym R.0)
    (observe-refused a.word a.party u pauli q b A copied (h _ _ _ _ _ _ _ _ _ _ _ c.in_err-step.ensures)
    (λ z. R.1 (R.0 ∙ z)))

pub put_party-requires-clause-neighbours_len : goal.put_party-requires-clause-neighbours_len
put_party-requires-clause-neighbours_len g c =
    let a = c.args in
    let u : UsedRecord = used_record a.n a.neighbours.now a.codes.now a.used.now in
    lent-64 a.word a.party u c.requires.apart

pub returns-clause-measured : goal.returns-clause-measured
returns-clause-measured g c = λ pauli q b A h.
    let a = c.args in
    let u : UsedRecord = used_record a.n a.neighbours.now a.codes.now a.used.now in
    let copied = copied-whole a.word a.party u c.requires.apart _ _ _ c.take_party-own_used.ensures in
    measure-done a.word a.party u pauli q b A copied (h _ _ _ _ _ _ _ _ _ _ _ c.in_ok-step.ensures) refl
    c.put_party.ensures c.put_used.ensures

pub returns-clause-observed : goal.returns-clause-observed
returns-clause-observed g c = λ pauli q b A h.
    let a = c.args in
    let u : UsedRecord = used_record a.n a.neighbours.now a.codes.now a.used.now in
    let copied = copied-whole a.word a.party u c.requires.apart _ _ _ c.take_party-own_used.ensures in
    observe-done a.word a.party u pauli q b A copied (h _ _ _ _ _ _ _ _ _ _ _ c.in_ok-step.ensures) refl
    c.put_party.ensures c.put_used.ensures
