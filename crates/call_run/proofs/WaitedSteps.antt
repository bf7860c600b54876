-- Steps on a record that may wait to be reduced, from what the calls answer.
use mathlib.Core.Bool.{Bool, cond, false, true}
use mathlib.Core.List.{List}
use mathlib.Core.Path.{◌∙◌, ◌≡◌, ap₂, refl, subst, sym}
use Prim.Native.Nat.{◌%◌, ◌+◌, ◌/◌, ℕ}
use native.Mathlib.Decide.{ℕ_discrete}
use lib.Dec.{eqb}
use borrow.Author.Tests.{eq-eqb, ne_eqb}
use Rattle.buffers.specs.Refusals.{first_fitting}
use Rattle.call_gates.proofs.KnownRecords.{six-alone}
use Rattle.call_run.proofs.WaitingLaws.{meant-again}
use Rattle.call_run.specs.internal.Waiting.{
  MeasuredStep,
  ObservedStep,
  Standing,
  Stepped,
  held_in,
  meant,
  meant_record,
}
use Rattle.calls.proofs.InPlaceCalls.{left-by-call}
use Rattle.calls.specs.InPlace.{used_call}
use Rattle.calls.specs.Sources.{renew_call}
use Rattle.buffers.proofs.Calling.{kept-all, refused, written_all}
use Rattle.buffers.specs.Calls.{Call}
use Rattle.jobs.specs.declared.Answer.{Answer}
use Rattle.jobs.specs.declared.Op.{Op}
use Rattle.jobs.specs.declared.Op.TheVariants.{Complement, Cz, Gate, Measure, Observe, Pivot, Renew}
use Rattle.jobs.specs.declared.Step.{Step}
use Rattle.operations.specs.Steps.{Operation, complement_of, cz_on, gate_with, leaves, pivot_of}
use Rattle.operations.specs.internal.InPlace.{Unrefused}
use Rattle.record.specs.Lent.{LentRecord, lent_record, record_lines}
use Rattle.operations.proofs.LeftRecords.{used-left}
use Rattle.operations.proofs.UsedPassing.{lines-pass}
use Rattle.operations.specs.Used.{UsedRecord, UsedUnrefused, used_after, used_step}
use Rattle.source.proofs.RenewedRecords.{renew-passes, renewed-passes}
use Rattle.source.specs.Renewal.{renewed}
use Rattle.call_run.proofs.Running.{measured-run, observed-run, plain-run, renewed-run, wrong, wrong-run}
use Rattle.call_run.specs.internal.StepRuns.{NoOutcome, StepRun, WaitedCall, WaitedStep, next_waiting}

-- what a call leaves of a record that no line refuses, none refuses
step-unrefused : (v : UsedRecord) → UsedUnrefused v → (o : Operation) → UsedUnrefused (used_step v o).after
step-unrefused v U o = go (ℕ_discrete (used_step v o).number 0)
  where
    go : Dec ((used_step v o).number ≡ 0) → UsedUnrefused (used_step v o).after
    go (yes z) = record { no_line = (used-left v o z).passes }
    go (no h) = subst (λ b. UsedUnrefused (cond b (record { held = leaves v.held o; used = used_after v o }) v))
        (sym (ne_eqb (used_step v o).number 0 h)) U

module _ (waiting : Bool) (u : UsedRecord) (W : Standing waiting u) where
  abbrev v : UsedRecord
  v = meant waiting u

  -- ---- an operation that leaves the record as the definitions have it
  module _ (o : Operation) (words' codes' : List ℕ) (k : ℕ) (C : Call (used_call (meant waiting u) o words' codes') k)
    where
      rewritten-sound : Unrefused (held_in u words' codes')
      rewritten-sound = record {
        no_line = subst (λ t. first_fitting (record_lines t false false) ≡ 0) (sym left)
            ((lines-pass (used_step v o).after false false false).0 (step-unrefused v W.checked o).no_line).0;
      }
        where
          many : (b : Bool) (t : UsedRecord) → t.held.n ≡ u.held.n → u.held.n ≡ (cond b t v).held.n
          many true t e = sym e
          many false t e = refl

          left : held_in u words' codes' ≡ (used_step v o).after.held
          left = λ i. record {
            n = many (eqb (used_step v o).number 0) (record { held = leaves v.held o; used = used_after v o }) refl i;
            neighbours = (left-by-call v o C).0 i;
            codes = (left-by-call v o C).1 i;
          }

      rewritten-call : Call (used_call (meant waiting u) o
          (meant_record (cond (eqb k 0) false waiting) (held_in u words' codes')).neighbours
          (meant_record (cond (eqb k 0) false waiting) (held_in u words' codes')).codes) k
      rewritten-call = go (ℕ_discrete k 0)
        where
          Said : Bool → Type 0
          Said b = Call (used_call v o (meant_record (cond b false waiting) (held_in u words' codes')).neighbours
              (meant_record (cond b false waiting) (held_in u words' codes')).codes) k

          go : Dec (k ≡ 0) → Said (eqb k 0)
          go (yes z) = subst Said (sym (eq-eqb k 0 z)) C
          go (no h) =
              let w = kept-all C h in
              subst Said (sym (ne_eqb k 0 h)) (refused _ C.number h (
                ap₂ (λ a b. (meant_record waiting (held_in u a b)).neighbours) w.0 w.1.0 ∙ (meant-again waiting u
                    W).0,
                (
                  ap₂ (λ a b. (meant_record waiting (held_in u a b)).codes) w.0 w.1.0 ∙ (meant-again waiting u W).1,
                  tt,
                ),
              ))

  -- ---- by the operation
  module _ {op : Op} (a b value : ℕ) where
    waited-as : {known : Op} → op ≡ known → (words' codes' : List ℕ) (k : ℕ)
        → WaitedCall waiting u known a b value words' codes' k → WaitedCall waiting u op a b value words' codes' k
    waited-as e words' codes' k C = subst (λ o. WaitedCall waiting u o a b value words' codes' k) (sym e) C

    pub gate-waited : op ≡ Gate → (words' codes' : List ℕ) (k : ℕ)
        → Stepped waiting u (gate_with a value) words' codes' k → WaitedCall waiting u op a b value words' codes' k
    gate-waited e words' codes' k S = waited-as e words' codes' k (record {
      operation = gate_with a value;
      asks = refl;
      plain = record { copied = refl; no-outcome = refl; no-determined = refl };
      sound = S.sound;
      call = S.call;
    })

    pub cz-waited : op ≡ Cz → (words' codes' : List ℕ) (k : ℕ)
        → Stepped waiting u (cz_on a b) words' codes' k → WaitedCall waiting u op a b value words' codes' k
    cz-waited e words' codes' k S = waited-as e words' codes' k (record {
      operation = cz_on a b;
      asks = refl;
      plain = record { copied = refl; no-outcome = refl; no-determined = refl };
      sound = S.sound;
      call = S.call;
    })

    pub complement-waited : op ≡ Complement → (words' codes' : List ℕ) (k : ℕ)
        → Call (used_call (meant waiting u) (complement_of a) words' codes') k
        → WaitedCall waiting u op a b value words' codes' k
    complement-waited e words' codes' k C = waited-as e words' codes' k (record {
      operation = complement_of a;
      asks = refl;
      plain = record { copied = refl; no-outcome = refl; no-determined = refl };
      sound = rewritten-sound (complement_of a) words' codes' k C;
      call = rewritten-call (complement_of a) words' codes' k C;
    })

    pub pivot-waited : op ≡ Pivot → (words' codes' : List ℕ) (k : ℕ)
        → Call (used_call (meant waiting u) (pivot_of a b) words' codes') k
        → WaitedCall waiting u op a b value words' codes' k
    pivot-waited e words' codes' k C = waited-as e words' codes' k (record {
      operation = pivot_of a b;
      asks = refl;
      plain = record { copied = refl; no-outcome = refl; no-determined = refl };
      sound = rewritten-sound (pivot_of a b) words' codes' k C;
      call = rewritten-call (pivot_of a b) words' codes' k C;
    })

  -- ---- a new photon
  module _ (q c : ℕ) (words' codes' : List ℕ) (used' k : ℕ) (C : Call
      (renew_call (meant waiting u) q c words' codes' used') k)
    where
      renewed-sound : Unrefused (held_in u words' codes')
      renewed-sound = go (ℕ_discrete k 0)
        where
          held-as : (w : LentRecord) → w.n ≡ u.held.n → words' ≡ w.neighbours → codes' ≡ w.codes
              → first_fitting (record_lines w false false) ≡ 0 → Unrefused (held_in u words' codes')
          held-as w en ew ec h = record {
            no_line = subst (λ t. first_fitting (record_lines t false false) ≡ 0)
                (λ i. lent_record (en i) (sym ew i) (sym ec i)) h;
          }

          go : Dec (k ≡ 0) → Unrefused (held_in u words' codes')
          go (yes z) =
              let w = written_all C z in
              let F = renew-passes v q c (sym C.number ∙ z) in
              held-as (renewed v q c).held refl w.1.0 w.1.1.0
              ((lines-pass (renewed v q c) false false false).0 (renewed-passes v q c F)).0
          go (no h) =
              let w = kept-all C h in
              held-as v.held refl w.1.0 w.1.1.0 ((lines-pass v false false false).0 W.checked.no_line).0

      renewed-call : Call (renew_call (meant waiting u) q c
          (meant_record (cond (eqb k 0) false waiting) (held_in u words' codes')).neighbours
          (meant_record (cond (eqb k 0) false waiting) (held_in u words' codes')).codes used') k
      renewed-call = go (ℕ_discrete k 0)
        where
          Said : Bool → Type 0
          Said b = Call (renew_call v q c (meant_record (cond b false waiting) (held_in u words' codes')).neighbours
              (meant_record (cond b false waiting) (held_in u words' codes')).codes used') k

          go : Dec (k ≡ 0) → Said (eqb k 0)
          go (yes z) = subst Said (sym (eq-eqb k 0 z)) C
          go (no h) =
              let w = kept-all C h in
              subst Said (sym (ne_eqb k 0 h)) (refused _ C.number h (
                w.0,
                (
                  ap₂ (λ a b. (meant_record waiting (held_in u a b)).neighbours) w.1.0 w.1.1.0 ∙ (meant-again
                      waiting u W).0,
                  (
                    ap₂ (λ a b. (meant_record waiting (held_in u a b)).codes) w.1.0 w.1.1.0 ∙ (meant-again waiting
                        u W).1,
                    tt,
                  ),
                ),
              ))

  -- ---- a step
  module _ (s : Step) where
    pub wrong-waited : wrong (meant waiting u) s ≡ true
        → WaitedStep waiting u s (record { refusal = 6; outcome = 0; determined = 0 }) u.held.neighbours
        u.held.codes u.used
    wrong-waited e = record { sound = W.sound; run = wrong-run v s e 6 (six-alone v W.checked true) }

    module _ (e : wrong (meant waiting u) s ≡ false) where
      pub plain-waited : (words' codes' : List ℕ) (k : ℕ)
          → WaitedCall waiting u s.op s.a s.b s.value words' codes' k
          → WaitedStep waiting u s (record { refusal = k; outcome = 0; determined = 0 }) words' codes' u.used
      plain-waited words' codes' k C =
          record { sound = C.sound; run = plain-run v s e C.operation C.asks C.plain k _ _ C.call }

      -- the record after an operation that is known
      known-waited : (op : Op) → s.op ≡ op → (words' codes' : List ℕ) (used' : ℕ) (r : Answer)
          → StepRun v s r (meant_record (next_waiting op r.refusal waiting) (held_in u words' codes')).neighbours
          (meant_record (next_waiting op r.refusal waiting) (held_in u words' codes')).codes used'
          → StepRun v s r (meant_record (next_waiting s.op r.refusal waiting)
          (held_in u words' codes')).neighbours
          (meant_record (next_waiting s.op r.refusal waiting) (held_in u words' codes')).codes used'
      known-waited op g words' codes' used' r R = subst (λ op. StepRun v s r
          (meant_record (next_waiting op r.refusal waiting) (held_in u words' codes')).neighbours
          (meant_record (next_waiting op r.refusal waiting) (held_in u words' codes')).codes used') (sym g) R

      pub measured-waited : s.op ≡ Measure → (words' codes' : List ℕ) (used' : ℕ) (r : Answer)
          → MeasuredStep waiting u (s.value / 2 + 1) s.a (s.value % 2) words' codes' used' r.outcome
          r.determined r.refusal
          → WaitedStep waiting u s r words' codes' used'
      measured-waited g words' codes' used' r M =
          record {
            sound = M.sound;
            run = known-waited Measure g words' codes' used' r (measured-run v s e g _ _ used' r M.call);
          }

      pub observed-waited : s.op ≡ Observe → (words' codes' : List ℕ) (used' : ℕ) (r : Answer)
          → ObservedStep waiting u (s.value / 2 + 1) s.a (s.value % 2) words' codes' used' r.outcome
          r.determined r.refusal
          → WaitedStep waiting u s r words' codes' used'
      observed-waited g words' codes' used' r O =
          record {
            sound = O.sound;
            run = known-waited Observe g words' codes' used' r (observed-run v s e g _ _ used' r O.call);
          }

      pub renewed-waited : s.op ≡ Renew → (words' codes' : List ℕ) (used' : ℕ) (r : Answer) → NoOutcome r
          → Call (renew_call (meant waiting u) s.a s.value words' codes' used') r.refusal
          → WaitedStep waiting u s r words' codes' used'
      renewed-waited g words' codes' used' r N C =
          record {
            sound = renewed-sound s.a s.value words' codes' used' r.refusal C;
            run = known-waited Renew g words' codes' used' r
                (renewed-run v s e g _ _ used' r N (renewed-call s.a s.value words' codes' used' r.refusal C));
          }
