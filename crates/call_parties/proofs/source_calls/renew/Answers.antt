-- `renew` meets its contract: a new photon at a used qubit of the party.
use mathlib.Core.Bool.{not}
use mathlib.Core.Path.{◌∙◌, ap, refl}
use Rattle.buffers.specs.Refusals.{first_fitting}
use Rattle.buffers.proofs.Calling.{refused}
use Rattle.buffers.proofs.RefusalLaws.{passed_on}
use Rattle.parties_impl.proofs.EarlyNumbers.{other-as}
use Rattle.parties_impl.specs.internal.BeforeEight.{before_eight}
use Rattle.operations.specs.Used.{UsedRecord, used_code, used_record}
use Rattle.call_parties.proofs.PartySourceCalls.{renew-admitted, renew-early-party, renew-whole}
use Rattle.call_parties.proofs.source_calls.renew.Goals as goal

pub returns-in_err-party_refusal : goal.returns-in_err-party_refusal
returns-in_err-party_refusal c =
    let a = c.args in
    let u : UsedRecord = used_record a.n a.neighbours.now a.codes.now a.used.now in
    let R = passed_on _ _ c.from_residual.ensures.1 c.in_err-party_refusal.ensures in
    let early = other-as a.word a.party u (not (used_code a.code))
    (R.0
    ∙ ap (λ s. first_fitting (before_eight a.word a.party u s c.outside-other.result)) c.no_photon-six.ensures)
    c.outside-other.ensures in
    refused _ (renew-early-party a.word a.party u a.qubit a.code early R.1)
    R.1 (refl, (refl, (refl, tt)))

pub renew_known-requires : goal.renew_known-requires
renew_known-requires c =
    let a = c.args in
    let u : UsedRecord = used_record a.n a.neighbours.now a.codes.now a.used.now in
    let early = other-as a.word a.party u (not (used_code a.code))
    (c.in_ok-party_refusal.ensures
    ∙ ap (λ s. first_fitting (before_eight a.word a.party u s c.outside-other.result)) c.no_photon-six.ensures)
    c.outside-other.ensures in
    record { no_line = (renew-admitted a.word a.party u a.qubit a.code early refl).apart.passes }

pub returns : goal.returns
returns c =
    let a = c.args in
    let u : UsedRecord = used_record a.n a.neighbours.now a.codes.now a.used.now in
    let early = other-as a.word a.party u (not (used_code a.code))
    (c.in_ok-party_refusal.ensures
    ∙ ap (λ s. first_fitting (before_eight a.word a.party u s c.outside-other.result)) c.no_photon-six.ensures)
    c.outside-other.ensures in
    renew-whole a.word a.party u a.qubit a.code early refl c.renew_known.ensures
