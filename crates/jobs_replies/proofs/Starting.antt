-- The run of a job from its start, and the print of it.
use mathlib.Core.List.{List, ◌++◌, ◌∷◌}
use mathlib.Core.Path.{◌∙◌, ◌≡◌, ap, refl, subst, sym}
use Prim.Native.Nat.{◌*◌, ◌+◌, ◌<◌, ◌≤◌, suc, zero, ℕ}
use native.Mathlib.Nat.{le_of_suc-le-suc, not-suc-le-zero}
use native.Mathlib.Omega.{arith}
use lib.ListN.{get_or, length, length-append, length-replicate, replicate, take}
use Rattle.jobs.proofs.ResultLaws.{length-results}
use Rattle.jobs.specs.Answer.{run_text, results_of}
use Rattle.jobs.specs.Results.{job_answer, result_lines, result_names}
use Rattle.jobs.proofs.Printing.{run-sized, started-sized}
use Rattle.jobs.proofs.Starting.{started-stands}
use Rattle.jobs.proofs.Stepwise.{run-qubits}
use Rattle.jobs.specs.Runs.{started}
use Rattle.jobs.specs.declared.Step.{Step}
use Rattle.buffers.proofs.Writing.{and_then, length-written}
use Rattle.text.specs.internal.Text.{Printable}
use Rattle.text.specs.Text.{record_text}
use Rattle.buffers.specs.Writing.{Printed}
use Rattle.operations.specs.Used.{UsedRecord, used_record, UsedUnrefused}
use Rattle.call_run.specs.internal.LentRuns.{LentRun}
use Rattle.jobs_replies.proofs.KeptResults.{lines-kept}
use Rattle.jobs_replies.specs.internal.Room.{Fresh, result_in}
use Rattle.jobs_replies.specs.Room.{longest_job}

-- the first n places of a buffer of equal numbers
pub repeated-part : (n m v : ℕ) → n ≤ m → take n (replicate m v) ≡ replicate n v
repeated-part zero m v h = refl
repeated-part (suc n) zero v h = absurd (not-suc-le-zero h)
repeated-part (suc n) (suc m) v h = ap (λ t. v ∷ t) (repeated-part n m v (le_of_suc-le-suc h))

-- buffers of 64 places hold the record that a job starts from
pub fresh : (n count : ℕ) (out : List ℕ) → 1 ≤ n → n ≤ 64 → count ≤ 4096 → longest_job ≤ length out
    → Fresh n (take n (replicate 64 0)) (take n (replicate 64 8)) count (replicate 4096 0) out
fresh n count out positive upto few room =
    record {
      positive = positive;
      upto = upto;
      no_edge = repeated-part n 64 0 upto;
      eights = repeated-part n 64 8 upto;
      few = few;
      kept = subst (λ m. count ≤ m) (sym (length-replicate {A = ℕ} 4096 0)) few;
      room = room;
    }

-- the record at the start
module _ (n : ℕ) (nb cs : List ℕ) (count : ℕ) (kept before : List ℕ) (F : Fresh n nb cs count kept before) where
  start : ◌≡◌ {A = UsedRecord} (used_record n nb cs 0) (started n)
  start = λ i. used_record n (F.no_edge i) (F.eights i) 0

  -- no line refuses it
  pub start-unrefused : UsedUnrefused (used_record n nb cs 0)
  start-unrefused = subst UsedUnrefused (sym start) (record {
    no_line = (started-stands n F.positive
        F.upto).still;
  })

module _ (n : ℕ) (nb cs : List ℕ) (count : ℕ) (steps : List Step) (few : length steps ≡ count) (kept before : List ℕ)
    (F : Fresh n nb cs count kept before) (nb' cs' : List ℕ) (used' : ℕ) (kept' : List ℕ)
    (R : LentRun (used_record n nb cs 0) steps 0 kept nb' cs' used'
    kept') (out : List ℕ) (at : ℕ) (P : Printed (result_names ++ result_lines count (result_in kept')) 0 before out at)
  where
    ran : LentRun (started n) steps 0 kept nb' cs' used' kept'
    ran = subst (λ u. LentRun u steps 0 kept nb' cs' used' kept') (start n nb cs count kept before F) R

    abbrev lines : List ℕ
    lines = result_names ++ result_lines (length steps) (results_of (started n) steps)

    written : Printed lines 0 before out at
    written = subst (λ t. Printed (result_names ++ t) 0 before out at)
        (lines-kept (started n) steps kept nb' cs' used' kept' ran count few) P

    short : length lines ≤ 32 + 4096 * 14
    short = omega (
      arith,
      length-append result_names (result_lines (length steps) (results_of (started n) steps)),
      length-results (length steps) (results_of (started n) steps),
      F.few,
      few,
    )

    -- the record can be printed behind the lines
    pub record-printable : Printable n nb' cs' at out
    record-printable =
        let S = run-sized n (started n) (started-sized n) steps in
        record {
          qubits = F.upto;
          neighbours-long = omega (arith, ap length ran.words, S.neighbours-long);
          codes-long = omega (arith, ap length ran.numbers, S.codes-long);
          codes-small = λ q h. subst (λ c. get_or c q 0 < 24) (sym ran.numbers) (S.codes-small q h);
          room = omega (
            arith,
            short,
            F.upto,
            F.room,
            written.end,
            ap length written.out ∙ length-written before 0 lines (omega (arith, short, F.room)),
          );
        }

    pub all-printed : (out' : List ℕ) (r : ℕ) → Printed (record_text n nb' cs' used') at out out' r
        → Printed (run_text n steps) 0 before out' r
    unfolding job_answer
    all-printed out' r Q =
        and_then (omega (arith, short, F.room)) written
        (subst (λ t. Printed t at out out' r)
        (λ i. record_text (sym (run-qubits (started n) steps) i) (ran.words i) (ran.numbers i) (ran.marks i)) Q)
