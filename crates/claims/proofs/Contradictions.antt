-- Contradicted outcomes are refused, from the call's contract: exactly these, and nothing is written.
use mathlib.Core.Bool.{not, true}
use mathlib.Core.Logic.{◌↔◌}
use mathlib.Core.Path.{◌∙◌, ◌≡◌, ap₂, subst, sym}
use Prim.Native.Nat.{◌<◌, ℕ}
use native.Mathlib.Omega.{arith}
use Rattle.buffers.specs.Refusals.{first_fitting}
use Rattle.buffers.proofs.Calling.{kept-all}
use Rattle.jobs.specs.Standing.{left}
use Rattle.operations.proofs.Contradicted.{contradicts-exactly}
use Rattle.operations.specs.Measurement.{contradicts, pauli_letter}
use Rattle.operations.specs.Steps.{argument_lines}
use Rattle.record.specs.Lent.{LentRecord, held_rows}
use Rattle.calls.proofs.InPlaceLines.{held-accepted, measure-ready}
use Rattle.calls.proofs.MeasureLines.{arguments-before, fourteen-exactly}
use Rattle.stabilizer.specs.Groups.{InGroup}
use Rattle.words.specs.Bits.{is_odd}
use Rattle.claims.specs.OperationsDemand.{ContradictionsRefused, signed_pauli}

-- where the arguments are in order, the bit is contradicted exactly if the Pauli with the other sign is in the group
pub contradicted-by-group : (l : LentRecord) (pauli q b : ℕ) → first_fitting (argument_lines l pauli q b) ≡ 0
    → (contradicts l.n (held_rows l) (pauli_letter pauli) q (is_odd b) ≡ true)
    ↔ InGroup l.n l.n (held_rows l) (signed_pauli pauli q (not (is_odd b)))
contradicted-by-group l pauli q b e =
    let A = held-accepted l _ _ e in
    contradicts-exactly l.n (held_rows l) (pauli_letter pauli) q (is_odd b) A.proper
    (subst (λ m. q < m) A.neighbours-length (measure-ready l pauli q b e).0.1)

pub contradictions-refused : ContradictionsRefused
contradictions-refused u pauli q b answer determined r nb' cs' used' answer' determined' C =
    record {
      exactly = (
        (λ e. let h = (fourteen-exactly u pauli q b).0 (sym C.number ∙ e) in
            (h.0, (contradicted-by-group u.held pauli q b (arguments-before u pauli q b h.0)).0 h.1)),
        (λ h. C.number ∙ (fourteen-exactly u pauli q b).1
            (h.0, (contradicted-by-group u.held pauli q b (arguments-before u pauli q b h.0)).1 h.1)),
      );
      record-kept = λ e. let k = kept-all C (not-accepted e) in
          (ap₂ (left u.held) k.1.1.1.0 k.1.1.1.1.0, k.0);
      answers-kept = λ e. let k = kept-all C (not-accepted e) in (k.1.0, k.1.1.0);
    }
  where
    not-accepted : {k : ℕ} → k ≡ 14 → k ≡ 0 → ⊥
    not-accepted e z = omega (arith, e, z)
