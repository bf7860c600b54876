-- `cz` meets its contract: CZ on two qubits of the party, whose vertices are reduced.
use mathlib.Core.Bool.{◌||◌}
use mathlib.Core.Path.{ap₂, refl}
use Rattle.std.proofs.Common.{rules}
use Rattle.buffers.proofs.Calling.{refused}
use Rattle.buffers.proofs.RefusalLaws.{passed_on}
use Rattle.parties.specs.internal.Apart.{cz-op}
use Rattle.operations.specs.Steps.{Operation, cz_on}
use Rattle.operations.specs.Used.{UsedRecord, used_record}
use Rattle.parties_impl.proofs.EarlyNumbers.{early-admitted, early-refused, other-as}
use Rattle.parties_impl.specs.internal.BeforeEight.{six_of}
use Rattle.call_parties.proofs.cz.Goals as goal

pub returns-in_err-party_refusal : goal.returns-in_err-party_refusal
returns-in_err-party_refusal c =
    let a = c.args in
    let u : UsedRecord = used_record a.n a.neighbours.now a.codes.now a.used in
    let o : Operation = cz_on a.a a.b in
    let R = passed_on _ _ c.from_residual.ensures.1 c.in_err-party_refusal.ensures in
    let early = other-as a.word a.party u (six_of o) R.0 (ap₂ ◌||◌ c.outside.ensures c.outside-2.ensures) in
    refused _ (early-refused a.word a.party u o (cz-op _ _) early R.1) R.1 (refl, (refl, tt))

pub within-requires-clause-apart : goal.within-requires-clause-apart
within-requires-clause-apart c =
    let a = c.args in
    let u : UsedRecord = used_record a.n a.neighbours.now a.codes.now a.used in
    let o : Operation = cz_on a.a a.b in
    let early = other-as a.word a.party u (six_of o) c.in_ok-party_refusal.ensures
    (ap₂ ◌||◌ c.outside.ensures c.outside-2.ensures) in
    (early-admitted a.word a.party u o early refl).apart

pub returns : goal.returns
returns c =
    let a = c.args in
    let u : UsedRecord = used_record a.n a.neighbours.now a.codes.now a.used in
    let o : Operation = cz_on a.a a.b in
    let early = other-as a.word a.party u (six_of o) c.in_ok-party_refusal.ensures
    (ap₂ ◌||◌ c.outside.ensures c.outside-2.ensures) in
    c.within.ensures o (cz-op _ _) (early-admitted a.word a.party u o early refl) (λ w b own r w' b' p. search rules)
