-- `renew_known` meets its contract: a new photon at a used qubit: its code, and the qubit's mark taken away.
use mathlib.Core.Bool.{Bool, false, not}
use mathlib.Core.Path.{◌≡◌, ◌∙◌, ap, refl, sym}
use Prim.Native.Nat.{ℕ}
use native.Mathlib.Omega.{arith}
use borrow.Author.Tests.{le-leb, lt-leb}
use Rattle.buffers.specs.Refusals.{first_fitting}
use Rattle.calls.proofs.SourceCalls.{renew-0, renew-20, renew-8, renew-done, renew-early}
use Rattle.buffers.proofs.Calling.{refused}
use Rattle.buffers.proofs.RefusalLaws.{passed_on}
use Rattle.source.proofs.RenewedRecords.{renew-passes}
use Rattle.operations.specs.Used.{used_code, used_lines, UsedRecord, used_record}
use Rattle.call_source.proofs.renew_known.Goals as goal

-- the number of the lines of the record and the code
number : (u : UsedRecord) (code : ℕ) {k : ℕ} {b : Bool} → k ≡ first_fitting (used_lines u false false b)
    → b ≡ not (used_code code) → k ≡ first_fitting (used_lines u false false (not (used_code code)))
number u code e p = e ∙ ap (λ b. first_fitting (used_lines u false false b)) p

pub returns-in_err-known_refusal : goal.returns-in_err-known_refusal
returns-in_err-known_refusal c =
    let a = c.args in
    let u : UsedRecord = used_record a.n a.neighbours.now a.codes.now a.used.now in
    let R = passed_on _ _ c.from_residual.ensures.1 c.in_err-known_refusal.ensures in
    refused _ (renew-early u a.qubit a.code (number u a.code R.0 c.no_photon.ensures) R.1) R.1
    (refl, (refl, (refl, tt)))

pub returns-then-n-qubit : goal.returns-then-n-qubit
returns-then-n-qubit c =
    let a = c.args in
    let u : UsedRecord = used_record a.n a.neighbours.now a.codes.now a.used.now in
    let e = number u a.code c.in_ok-known_refusal.ensures c.no_photon.ensures in
    refused _ (renew-8 u a.qubit a.code e refl (le-leb a.n a.qubit c.if-n-qubit.true)) (λ z. absurd (omega (arith, z)))
    (refl, (refl, (refl, tt)))

pub returns-then-not-bit_at : goal.returns-then-not-bit_at
returns-then-not-bit_at c =
    let a = c.args in
    let u : UsedRecord = used_record a.n a.neighbours.now a.codes.now a.used.now in
    let e = number u a.code c.in_ok-known_refusal.ensures c.no_photon.ensures in
    refused _ (renew-20 u a.qubit a.code e refl (lt-leb a.n a.qubit c.if-n-qubit.false)
    (ap not (sym c.bit_at.ensures) ∙ c.if-not-bit_at.true-raw)) (λ z. absurd (omega (arith, z)))
    (refl, (refl, (refl, tt)))

pub bounds-codes-qubit : goal.bounds-codes-qubit
bounds-codes-qubit c =
    let a = c.args in
    let u : UsedRecord = used_record a.n a.neighbours.now a.codes.now a.used.now in
    let e = number u a.code c.in_ok-known_refusal.ensures c.no_photon.ensures in
    let passes = renew-0 u a.qubit a.code e refl (lt-leb a.n a.qubit c.if-n-qubit.false)
    (ap not (sym c.bit_at.ensures) ∙ c.if-not-bit_at.false-raw) in
    let F = renew-passes u a.qubit a.code (sym passes) in
    omega (arith, F.below, F.held.codes-length)

pub flip-requires : goal.flip-requires
flip-requires c =
    let a = c.args in
    let u : UsedRecord = used_record a.n a.neighbours.now a.codes.now a.used.now in
    let e = number u a.code c.in_ok-known_refusal.ensures c.no_photon.ensures in
    let passes = renew-0 u a.qubit a.code e refl (lt-leb a.n a.qubit c.if-n-qubit.false)
    (ap not (sym c.bit_at.ensures) ∙ c.if-not-bit_at.false-raw) in
    let F = renew-passes u a.qubit a.code (sym passes) in
    omega (arith, F.below, F.held.upto)

pub returns : goal.returns
returns c =
    let a = c.args in
    let u : UsedRecord = used_record a.n a.neighbours.now a.codes.now a.used.now in
    let e = number u a.code c.in_ok-known_refusal.ensures c.no_photon.ensures in
    let passes = renew-0 u a.qubit a.code e refl (lt-leb a.n a.qubit c.if-n-qubit.false)
    (ap not (sym c.bit_at.ensures) ∙ c.if-not-bit_at.false-raw) in
    renew-done u a.qubit a.code passes _ _ _ refl refl c.flip.ensures
