-- `observe` meets its contract: a Pauli measured at a qubit of the party with a bit by lot, and its vertices reduced.
use mathlib.Core.Path.{refl}
use Rattle.std.proofs.Common.{rules}
use Rattle.buffers.proofs.Calling.{refused}
use Rattle.buffers.proofs.RefusalLaws.{passed_on}
use Rattle.operations.specs.Used.{UsedRecord, used_record}
use Rattle.parties_impl.proofs.EarlyNumbers.{other-as}
use Rattle.source.proofs.ObservedParties.{observed_six}
use Rattle.call_parties.proofs.PartySourceCalls.{observe-admitted, observe-early}
use Rattle.call_parties.proofs.source_calls.observe.Goals as goal

pub returns-in_err-party_refusal : goal.returns-in_err-party_refusal
returns-in_err-party_refusal c =
    let a = c.args in
    let u : UsedRecord = used_record a.n a.neighbours.now a.codes.now a.used.now in
    let R = passed_on _ _ c.from_residual.ensures.1 c.in_err-party_refusal.ensures in
    let early = other-as a.word a.party u (observed_six a.pauli a.bit) R.0 c.outside-other.ensures in
    refused _ (observe-early a.word a.party u a.pauli a.qubit a.bit early R.1) R.1
    (refl, (refl, (refl, (refl, (refl, tt)))))

pub measured_within-requires-clause-apart : goal.measured_within-requires-clause-apart
measured_within-requires-clause-apart c =
    let a = c.args in
    let u : UsedRecord = used_record a.n a.neighbours.now a.codes.now a.used.now in
    let early = other-as a.word a.party u (observed_six a.pauli a.bit) c.in_ok-party_refusal.ensures
    c.outside-other.ensures in
    (observe-admitted a.word a.party u a.pauli a.qubit a.bit early refl).apart

pub returns : goal.returns
returns c =
    let a = c.args in
    let u : UsedRecord = used_record a.n a.neighbours.now a.codes.now a.used.now in
    let early = other-as a.word a.party u (observed_six a.pauli a.bit) c.in_ok-party_refusal.ensures
    c.outside-other.ensures in
    c.measured_within.ensures.observed _ _ _ (observe-admitted a.word a.party u a.pauli a.qubit a.bit early refl)
    (λ w b own x y r w' b' own' x' y' p. search rules)
