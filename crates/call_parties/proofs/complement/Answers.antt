-- `complement` meets its contract: local complementation at a vertex of the party.
use mathlib.Core.Path.{refl}
use Rattle.std.proofs.Common.{rules}
use Rattle.buffers.proofs.Calling.{refused}
use Rattle.buffers.proofs.RefusalLaws.{passed_on}
use Rattle.parties.specs.internal.Apart.{complement-op}
use Rattle.operations.specs.Steps.{Operation, complement_of}
use Rattle.operations.specs.Used.{UsedRecord, used_record}
use Rattle.parties_impl.proofs.EarlyNumbers.{early-admitted, early-refused, other-as}
use Rattle.parties_impl.specs.internal.BeforeEight.{six_of}
use Rattle.call_parties.proofs.complement.Goals as goal

pub returns-in_err-party_refusal : goal.returns-in_err-party_refusal
returns-in_err-party_refusal c =
    let a = c.args in
    let u : UsedRecord = used_record a.n a.neighbours.now a.codes.now a.used in
    let o : Operation = complement_of a.a in
    let R = passed_on _ _ c.from_residual.ensures.1 c.in_err-party_refusal.ensures in
    let early = other-as a.word a.party u (six_of o) R.0 c.outside-other.ensures in
    refused _ (early-refused a.word a.party u o (complement-op _) early R.1) R.1 (refl, (refl, tt))

pub within-requires-clause-apart : goal.within-requires-clause-apart
within-requires-clause-apart c =
    let a = c.args in
    let u : UsedRecord = used_record a.n a.neighbours.now a.codes.now a.used in
    let o : Operation = complement_of a.a in
    let early = other-as a.word a.party u (six_of o) c.in_ok-party_refusal.ensures
    c.outside-other.ensures in
    (early-admitted a.word a.party u o early refl).apart

pub returns : goal.returns
returns c =
    let a = c.args in
    let u : UsedRecord = used_record a.n a.neighbours.now a.codes.now a.used in
    let o : Operation = complement_of a.a in
    let early = other-as a.word a.party u (six_of o) c.in_ok-party_refusal.ensures
    c.outside-other.ensures in
    c.within.ensures o (complement-op _) (early-admitted a.word a.party u o early refl)
    (λ w b own r w' b' p. search rules)
