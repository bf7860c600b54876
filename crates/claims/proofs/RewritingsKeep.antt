-- Complements and pivots keep the group; of two calls the second is about what the first left.
use mathlib.Core.Bool.{Bool, cond, false, true}
use mathlib.Core.List.{List}
use mathlib.Core.Path.{◌∙◌, ◌≡◌, ap, refl, subst, sym}
use Prim.Native.Nat.{◌<◌, ◌≤◌, ℕ}
use lib.Dec.{eqb, leb}
use lib.ListN.{get_or-eq_default}
use borrow.Author.Tests.{leb-false}
use Rattle.clifford.specs.Clifford.{clifford_of, identity_clifford}
use Rattle.buffers.specs.Calls.{Call}
use Rattle.record.proofs.Complement.{complement-simple}
use Rattle.record.specs.Graph.{Simple}
use Rattle.jobs.specs.Standing.{left}
use Rattle.operations.proofs.Rewriting.{pivot-same, pivot-simple}
use Rattle.operations.proofs.UnrefusedRecords.{complement-above}
use Rattle.operations.specs.Steps.{Operation, complement_of, leaves, measurement_of, pivot_of, pivot_record}
use Rattle.record.proofs.Complementing.{complement-same}
use Rattle.record.proofs.WrittenRecords.{record-back, record-passes, record-rows-back, written_record}
use Rattle.record.specs.Accepted.{AcceptedRecord}
use Rattle.record.specs.Lent.{held_record, held_rows, LentRecord}
use Rattle.record.specs.Records.{GraphRecord, complement_record, rows_of}
use Rattle.stabilizer.proofs.EqualRows.{same-group-equal}
use Rattle.stabilizer.proofs.GroupLaws.{same-trans}
use Rattle.stabilizer.specs.Groups.{SameGroup}
use Rattle.calls.proofs.InPlaceCalls.{left-by-call, marked-by-call}
use Rattle.calls.proofs.InPlaceLines.{complement-ready, eight-passes, held-accepted}
use Rattle.calls.specs.InPlace.{in_place_call, used_call, used_measure_call}
use Rattle.operations.specs.Used.{UsedRecord, used_after, used_step}
use Rattle.words.proofs.Flags.{neither}
use Rattle.claims.proofs.GatesFollow.{holds-new}
use Rattle.claims.specs.OperationsDemand.{ComplementsKeep, RewrittenAs, SecondAboutFirst, SecondAboutMeasured}

-- ---- complements and pivots
-- a record rewritten to one of the same group, with code 0 at and above n
rewritten-as : (l : LentRecord) → AcceptedRecord l → (new : GraphRecord) → Simple l.n new.graph
    → ((q : ℕ) → l.n ≤ q → new.codes q ≡ identity_clifford)
    → SameGroup l.n l.n (held_rows l) (rows_of l.n new)
    → RewrittenAs l (written_record l.n new) new
rewritten-as l A new S above same =
    record {
      still = record-passes l.n new S above A.positive A.upto;
      holds = record-back l.n new S above;
      group = same-trans same (same-group-equal l.n (rows_of l.n new) (held_rows (written_record l.n new))
          (λ j k. sym (record-rows-back l.n new S above j)));
    }

-- code 0 stands at and above n
held-above : (l : LentRecord) → AcceptedRecord l → (q : ℕ) → l.n ≤ q → (held_record l).codes q ≡ identity_clifford
held-above l A q h =
    ap clifford_of (get_or-eq_default l.codes 0 (subst (λ m. m ≤ q) (sym A.codes-length) h))

pub complements-keep : ComplementsKeep
complements-keep l a nb' cs' C =
    subst (λ r. RewrittenAs l r new) (sym (holds-new l (complement_of a) nb' cs' C))
    (rewritten-as l A new (complement-simple l.n _ A.simple a)
    (complement-above l.n (held_record l) A.simple a below (held-above l A))
    (complement-same l.n (held_record l) A.simple a below))
  where
    new : GraphRecord
    new = complement_record (held_record l) a

    A : AcceptedRecord l
    A = held-accepted l _ _ (sym C.number)

    below : a < l.n
    below = subst (λ m. a < m) A.neighbours-length (complement-ready l a (sym C.number)).1

pub pivots-keep : (l : LentRecord) (j k : ℕ) (nb' cs' : List ℕ) → Call (in_place_call l (pivot_of j k) nb' cs') 0
    → RewrittenAs l (left l nb' cs') (pivot_record (held_record l) j k)
pivots-keep l j k nb' cs' C =
    subst (λ r. RewrittenAs l r new) (sym (holds-new l (pivot_of j k) nb' cs' C))
    (rewritten-as l A new (pivot-simple n held A.simple j k)
    (complement-above n _ simple₂ j bj (complement-above n _ simple₁ k bk
    (complement-above n held A.simple j bj (held-above l A))))
    (pivot-same n held A.simple j k bj bk))
  where
    n : ℕ
    n = l.n

    held : GraphRecord
    held = held_record l

    new : GraphRecord
    new = pivot_record held j k

    A : AcceptedRecord l
    A = held-accepted l _ _ (sym C.number)

    simple₁ : Simple n (complement_record held j).graph
    simple₁ = complement-simple n _ A.simple j

    simple₂ : Simple n (complement_record (complement_record held j) k).graph
    simple₂ = complement-simple n _ simple₁ k

    in-range : (leb n j ≡ false) × (leb n k ≡ false)
    in-range = let t = neither (leb n j) _ (eight-passes l _ _ (sym C.number)) in
        (t.0, (neither (leb n k) _ t.1).0)

    bj : j < n
    bj = leb-false n j in-range.0

    bk : k < n
    bk = leb-false n k in-range.1

-- ---- two calls
-- what a call leaves is the step's record
pub is-after : (u : UsedRecord) (o : Operation) (r : ℕ) (nb cs : List ℕ) → Call (used_call u o nb cs) r
    → left u.held nb cs ≡ (used_step u o).after.held
is-after u o r nb cs C = λ i. record {
  n = sym (step-n (eqb (used_step u o).number 0)) i;
  neighbours = (left-by-call u o C).0 i;
  codes = (left-by-call u o C).1 i;
}
  where
    step-n : (b : Bool) → (cond b (record { held = leaves u.held o; used = used_after u o }) u).held.n ≡ u.held.n
    step-n true = refl
    step-n false = refl

pub second-about-first : SecondAboutFirst
second-about-first u o₁ o₂ r₁ r₂ nb₁ cs₁ nb₂ cs₂ C D =
    is-after (record { held = left u.held nb₁ cs₁; used = (used_step u o₁).after.used }) o₂ r₂ nb₂ cs₂ D
    ∙ ap (λ r. (used_step (record { held = r; used = (used_step u o₁).after.used }) o₂).after.held)
    (is-after u o₁ r₁ nb₁ cs₁ C)

-- ---- two measurements
-- what one leaves is the step's record and used word
pub is-measured : (u : UsedRecord) (pauli q b answer determined r : ℕ) (nb cs : List ℕ) (used answer' determined' : ℕ)
    → Call (used_measure_call u pauli q b answer determined nb cs used answer' determined') r
    → record { held = left u.held nb cs; used = used } ≡ (used_step u (measurement_of pauli q b)).after
is-measured u pauli q b answer determined r nb cs used answer' determined' C = λ i. record {
  held = is-after u (measurement_of pauli q b) r nb cs
      (record { number = C.number; held = C.held.1.1.1 }) i;
  used = marked-by-call u pauli q b C i;
}

pub second-about-measured : SecondAboutMeasured
second-about-measured u pauli₁ q₁ b₁ answer₁ determined₁ r₁ pauli₂ q₂ b₂ answer₂ determined₂ r₂ nb₁ cs₁ nb₂ cs₂ used₁
    answer₁' determined₁' used₂ answer₂' determined₂' C D =
    is-measured (record { held = left u.held nb₁ cs₁; used = used₁ }) pauli₂ q₂ b₂ answer₂ determined₂ r₂ nb₂ cs₂
    used₂
    answer₂' determined₂' D
    ∙ ap (λ v. (used_step v (measurement_of pauli₂ q₂ b₂)).after)
    (is-measured u pauli₁ q₁ b₁ answer₁ determined₁ r₁ nb₁ cs₁ used₁ answer₁' determined₁' C)
