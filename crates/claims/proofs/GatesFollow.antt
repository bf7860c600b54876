-- Demand 2 of gates and CZ, from the calls' contracts and the laws of operations.
use mathlib.Core.Bool.{false}
use mathlib.Core.List.{List}
use mathlib.Core.Logic.{◌↔◌, ◌≢◌}
use mathlib.Core.Path.{◌≡◌, ap, ap₂, subst, sym}
use Prim.Native.Nat.{◌<◌, ◌≤◌, ℕ}
use lib.ListN.{length}
use Rattle.clifford.specs.Clifford.{Clifford, clifford_of}
use Rattle.clifford.specs.Vectors.{only}
use Rattle.buffers.specs.Calls.{Call}
use Rattle.jobs.specs.Standing.{StillRecord, left}
use Rattle.operations.proofs.CzGroups.{cz-group, cz-proper}
use Rattle.operations.proofs.CzValues.{cz-is}
use Rattle.operations.proofs.Gating.{gate-carries}
use Rattle.operations.proofs.GroupAlone.{reduced-of-group}
use Rattle.operations.specs.Cz.{cz, cz_rows}
use Rattle.operations.specs.Gates.{gated}
use Rattle.operations.specs.Steps.{Operation, cz_on, gate_with, made}
use Rattle.pauli.specs.Pauli.{Pauli}
use Rattle.record.proofs.AcceptedRecords.{accepted-record}
use Rattle.record.proofs.ReducedRecords.{record-proper}
use Rattle.record.proofs.WrittenRecords.{reduced-held-same, reduced-passes, written_record}
use Rattle.record.specs.Accepted.{AcceptedRecord}
use Rattle.record.specs.Lent.{LentRecord, code_numbers, held_record, held_rows, neighbour_words}
use Rattle.record.specs.Records.{rows_of}
use Rattle.record.specs.Reduced.{reduced}
use Rattle.stabilizer.proofs.Carried.{carries_same}
use Rattle.stabilizer.proofs.GroupLaws.{same-trans}
use Rattle.stabilizer.specs.Groups.{InGroup, Proper}
use Rattle.calls.proofs.InPlaceLines.{cz-ready, held-accepted}
use Rattle.calls.specs.InPlace.{in_place_call}
use Rattle.claims.specs.OperationsDemand.{
  CzFollows,
  CzStands,
  GateStands,
  GatesFollow,
  IsReduced,
}

-- an accepted call leaves the new record in the buffers
pub holds-new : (l : LentRecord) (o : Operation) (nb' cs' : List ℕ) → Call (in_place_call l o nb' cs') 0
    → left l nb' cs' ≡ written_record l.n (made l o)
holds-new l o nb' cs' C = ap₂ (left l) C.held.0 C.held.1.0

-- ---- the reduced record of a list as the answer
module _ (n : ℕ) (R : ℕ → Pauli) (P : Proper n R) (positive : 1 ≤ n) (upto : n ≤ 64) where
  abbrev pub answer : LentRecord
  answer = written_record n (reduced n R)

  pub answer-still : StillRecord answer
  answer-still = reduced-passes n R P positive upto

  same-reduced : reduced n R ≡ reduced n (held_rows answer)
  same-reduced = reduced-of-group n R (held_rows answer) P
      (accepted-record answer false false answer-still).proper (reduced-held-same n R P)

  pub answer-reduced : IsReduced answer
  answer-reduced = record {
    neighbours = ap (neighbour_words n) same-reduced;
    codes = ap (code_numbers n) same-reduced;
  }

-- ---- gates
pub gates-follow : GatesFollow
gates-follow l q k nb' cs' C = subst (GateStands l q k)
    (sym (holds-new l (gate_with q k) nb' cs' C)) (record {
      still = answer-still n R P A.positive A.upto;
      answers = answer-reduced n R P A.positive A.upto;
      applied = reduced-held-same n R P;
      group = (carries_same n c (held_rows l) (held_rows (written_record n (reduced n R)))).1
          (same-trans ((carries_same n c (held_rows l) R).0 (gate-carries n (held_record l) q (clifford_of k)))
          (reduced-held-same n R P));
    })
  where
    n : ℕ
    n = l.n

    c : ℕ → Clifford
    c = only q (clifford_of k)

    A : AcceptedRecord l
    A = held-accepted l _ _ (sym C.number)

    R : ℕ → Pauli
    R = rows_of n (gated (held_record l) q (clifford_of k))

    P : Proper n R
    P = record-proper n (gated (held_record l) q (clifford_of k)) A.simple

-- ---- CZ
pub cz-follows : CzFollows
cz-follows l a b nb' cs' C = subst (CzStands l a b)
    (sym (holds-new l (cz_on a b) nb' cs' C)) (record {
      still = answer-still n R P A.positive A.upto;
      answers = answer-reduced n R P A.positive A.upto;
      is = cz-is n a b ha hb ab;
      group = λ p. (
        (λ h. (group p).0 ((reduced-held-same n R P).back p h)),
        (λ h. (reduced-held-same n R P).there p ((group p).1 h)),
      );
    })
  where
    n : ℕ
    n = l.n

    A : AcceptedRecord l
    A = held-accepted l _ _ (sym C.number)

    below : {q : ℕ} → q < length l.neighbours → q < n
    below {q} h = subst (λ m. q < m) A.neighbours-length h

    ha : a < n
    ha = below (cz-ready l a b (sym C.number)).1.0

    hb : b < n
    hb = below (cz-ready l a b (sym C.number)).1.1

    ab : a ≢ b
    ab = (cz-ready l a b (sym C.number)).1.2

    R : ℕ → Pauli
    R = cz_rows a b (held_rows l)

    P : Proper n R
    P = cz-proper n a b ha hb ab (held_rows l) A.proper

    group : (p : Pauli) → InGroup n n R p ↔ ((r : Pauli) × InGroup n n (held_rows l) r × (p ≡ cz a b r))
    group = cz-group n a b ha hb ab (held_rows l)
