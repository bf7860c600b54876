-- Runs of lent steps, one behind the other: no step, one step, and steps behind steps.
use mathlib.Core.Bool.{Bool}
use mathlib.Core.List.{◌++◌, List, [], ◌∷◌}
use mathlib.Core.Path.{◌∙◌, ◌≡◌, ap, refl, subst, sym}
use Prim.Native.Nat.{◌+◌, ◌<◌, ◌^◌, ◌≤◌, suc, ℕ}
use native.Mathlib.Omega.{arith}
use lib.Dec.{leb}
use lib.ListN.{get_or, length, length-append, set, take}
use lib.Seq.{length-take-le, take_all, take-suc}
use Rattle.call_run.specs.internal.Waiting.{held_in, meant, meant_record}
use Rattle.jobs.proofs.Stepwise.{run-qubits}
use Rattle.jobs.specs.Asked.{number_of}
use Rattle.jobs.specs.Runs.{after_step, run}
use Rattle.jobs.specs.declared.Answer.{Answer}
use Rattle.jobs.specs.declared.Step.{Step}
use Rattle.call_run.proofs.KeptRecords.{run-unrefused}
use Rattle.call_run.specs.internal.StepRuns.{StepRun, WaitedStep, next_waiting}
use Rattle.buffers.proofs.Writing.{write-more, write-none, write-one}
use Rattle.buffers.specs.Writing.{overwritten}
use Rattle.operations.specs.Used.{UsedRecord, used_record, UsedUnrefused}
use Rattle.call_run.proofs.MarkedSteps.{answers-append, last-kept, last_of, mark-kept, small-answer}
use Rattle.call_run.specs.internal.LentRuns.{
  LentRun,
  ReadyAt,
  WaitingRun,
  marked_before,
  packed,
  packed_answers,
}

-- ---- definitions on a list behind another
run-append : (u : UsedRecord) (xs ys : List Step) → run u (xs ++ ys) ≡ run (run u xs) ys
unfolding run
run-append u [] ys = refl
run-append u (x ∷ xs) ys = run-append (after_step u x) xs ys

pub answers-long : (mark : Bool) (u : UsedRecord) (xs : List Step) → length (packed_answers mark u xs) ≡ length xs
unfolding packed_answers
answers-long mark u [] = refl
answers-long mark u (x ∷ xs) = ap suc (answers-long (next_waiting x.op (number_of u x) mark) (after_step u x) xs)

-- ---- runs on the record as the definitions have it
module _ (u : UsedRecord) where
  -- no step
  none_lent : (at : ℕ) (before : List ℕ)
      → LentRun u [] at before u.held.neighbours u.held.codes u.used before
  unfolding run packed_answers
  none_lent at before =
      record { words = refl; numbers = refl; marks = refl; answers = write-none before at }

  -- one step
  one_lent : (s : Step) (at : ℕ) (before : List ℕ) → at < length before → (r : Answer) (p : ℕ)
      → p ≡ packed (next_waiting s.op r.refusal (marked_before at before)) r → (nb cs : List ℕ) (used : ℕ)
      → StepRun u s r nb cs used → LentRun u (s ∷ []) at before nb cs used (set before at p)
  unfolding run packed_answers
  one_lent s at before inside r p e nb cs used R =
      record {
        words = R.words;
        numbers = R.numbers;
        marks = R.marks;
        answers = ap (set before at) (e ∙ ap (λ t. packed (next_waiting s.op t.refusal (marked_before at before)) t)
            R.answer)
            ∙ write-one before at _ inside;
      }

  module _ (xs : List Step) (at : ℕ) (before nb cs : List ℕ) (used : ℕ) (mid : List ℕ)
      (R : LentRun u xs at before nb cs used mid) where
    -- the record that the buffers hold
    abbrev left : UsedRecord
    left = used_record u.held.n nb cs used

    pub left_is : left ≡ run u xs
    left_is = λ i. used_record (sym (run-qubits u xs) i) (R.words i) (R.numbers i) (R.marks i)

    -- the mark behind the steps is their last
    abbrev kept : List ℕ
    kept = packed_answers (marked_before at before) u xs

    mark-left : at ≤ length before → marked_before (at + length xs) mid ≡ leb 128 (last_of (get_or (0 ∷ before) at 0) kept)
    mark-left inside =
        ap (λ k. marked_before (at + k) mid) (sym (answers-long (marked_before at before) u xs))
        ∙ ap (marked_before (at + length kept)) R.answers ∙ ap (leb 128) (last-kept before at inside kept)

    -- further steps behind them
    lent-on : at + length xs ≤ length before → (ys : List Step) (nb' cs' : List ℕ) (used' : ℕ) (after : List ℕ)
        → LentRun left ys (at + length xs) mid nb' cs' used' after
        → LentRun u (xs ++ ys) at before nb' cs' used' after
    lent-on room ys nb' cs' used' after S =
        let T = subst (λ m. LentRun m ys (at + length xs) mid nb' cs' used' after) left_is S in
        let long = answers-long (marked_before at before) u xs in
        let more = packed_answers (leb 128 (last_of (get_or (0 ∷ before) at 0) kept)) (run u xs) ys in
        record {
          words = T.words ∙ ap (λ m. m.held.neighbours) (sym (run-append u xs ys));
          numbers = T.numbers ∙ ap (λ m. m.held.codes) (sym (run-append u xs ys));
          marks = T.marks ∙ ap (λ m. m.used) (sym (run-append u xs ys));
          answers = T.answers
              ∙ ap (λ b. overwritten mid (at + length xs) (packed_answers b (run u xs) ys))
              (mark-left (omega (arith, room)))
              ∙ ap (λ t. overwritten t (at + length xs) more) R.answers
              ∙ ap (λ k. overwritten (overwritten before at kept) (at + k) more) (sym long)
              ∙ write-more before at kept (omega (arith, long)) more
              ∙ ap (overwritten before at) (sym (answers-append (get_or (0 ∷ before) at 0) (marked_before at before) refl u
              xs ys));
        }

-- ---- runs on the record that waits
-- the same run, counted otherwise
counted : (u : UsedRecord) (xs : List Step) (at : ℕ) (before nb cs : List ℕ) (used : ℕ) (after : List ℕ) (k : ℕ)
    → k ≡ at + length xs
    → LentRun (meant (marked_before at before) u) xs at before
    (meant_record (marked_before k after) (held_in u nb cs)).neighbours
    (meant_record (marked_before k after) (held_in u nb cs)).codes used after
    → (ReadyAt at before u → ReadyAt k after (record { held = held_in u nb cs; used = used }))
    → WaitingRun u xs at before nb cs used after
counted u xs at before nb cs used after k e R K =
    record {
      ran = subst (λ k. LentRun (meant (marked_before at before) u) xs at before
          (meant_record (marked_before k after) (held_in u nb cs)).neighbours
          (meant_record (marked_before k after) (held_in u nb cs)).codes used after) e R;
      ready = λ T. subst (λ k. ReadyAt k after (record { held = held_in u nb cs; used = used })) e (K T);
    }

-- no step
pub none-ran : (u : UsedRecord) (at : ℕ) (before : List ℕ)
    → WaitingRun u [] at before u.held.neighbours u.held.codes u.used before
none-ran u at before = counted u [] at before _ _ _ before at (omega arith)
    (none_lent (meant (marked_before at before) u) at before) (λ K. K)

-- one step
module _ (u : UsedRecord) (s : Step) (at : ℕ) (before : List ℕ) (inside : at < length before) (r : Answer) (p : ℕ)
    (e : p ≡ packed (next_waiting s.op r.refusal (marked_before at before)) r) (nb cs : List ℕ) (used : ℕ)
    (A : WaitedStep (marked_before at before) u s r nb cs used) where
  abbrev v : UsedRecord
  v = meant (marked_before at before) u

  next : marked_before (at + 1) (set before at p) ≡ next_waiting s.op r.refusal (marked_before at before)
  next = mark-kept before at p inside (next_waiting s.op r.refusal (marked_before at before)) r
      (small-answer v s r A.run.answer) e

  stepped : LentRun v (s ∷ []) at before
      (meant_record (marked_before (at + 1) (set before at p)) (held_in u nb cs)).neighbours
      (meant_record (marked_before (at + 1) (set before at p)) (held_in u nb cs)).codes used (set before at p)
  stepped = subst (λ b. LentRun v (s ∷ []) at before (meant_record b (held_in u nb cs)).neighbours
      (meant_record b (held_in u nb cs)).codes used (set before at p)) (sym next)
      (one_lent v s at before inside r p e _ _ used A.run)

  one-ran : WaitingRun u (s ∷ []) at before nb cs used (set before at p)
  one-ran = counted u (s ∷ []) at before nb cs used (set before at p) (at + 1) refl stepped
      (λ K. record {
        standing = record {
          sound = A.sound;
          checked = subst UsedUnrefused (sym (left_is _ (s ∷ []) at before _ _ used (set before at p) stepped))
              (run-unrefused _ K.standing.checked (s ∷ []));
        };
      })

-- from what its calls answer
pub turned : (waiting : Bool) (u : UsedRecord) (s : Step) (r : Answer) (nb cs : List ℕ) (used : ℕ) (at : ℕ)
    (before : List ℕ) → at < length before → (marked : Bool) (p : ℕ) → waiting ≡ marked_before at before
    → marked ≡ next_waiting s.op r.refusal waiting → p ≡ packed marked r → WaitedStep waiting u s r nb cs used
    → WaitingRun u (s ∷ []) at before nb cs used (set before at p)
turned waiting u s r nb cs used at before inside marked p ew em ep A = one-ran u s at before inside r p
    (ep ∙ ap (λ b. packed b r) (em ∙ ap (next_waiting s.op r.refusal) ew)) nb cs used
    (subst (λ b. WaitedStep b u s r nb cs used) ew A)

-- further steps behind them
pub ran_on : (u : UsedRecord) (xs : List Step) (at : ℕ) (before nb cs : List ℕ) (used : ℕ) (mid : List ℕ)
    → WaitingRun u xs at before nb cs used mid → at + length xs ≤ length before → (ys : List Step)
    → (nb' cs' : List ℕ) (used' : ℕ) (after : List ℕ)
    → WaitingRun (used_record u.held.n nb cs used) ys (at + length xs)
    mid nb' cs' used' after
    → WaitingRun u (xs ++ ys) at before nb' cs' used' after
ran_on u xs at before nb cs used mid R room ys nb' cs' used' after S =
    counted u (xs ++ ys) at before nb' cs' used' after (at + length xs + length ys)
    (omega (arith, length-append xs ys))
    (lent-on _ xs at before _ _ used mid R.ran room ys _ _ used' after S.ran) (λ K. S.ready (R.ready K))

-- one step more of a list; `other` is what a list is read as past its end
pub ran-next : (u : UsedRecord) (steps : List Step) (k at : ℕ) (other : Step) → k < length steps
    → (before : List ℕ) → at + length steps ≤ length before → (nb cs : List ℕ) (used : ℕ) (mid : List ℕ)
    → WaitingRun u (take k steps) at before nb cs used mid
    → (nb' cs' : List ℕ) (used' : ℕ) (after : List ℕ)
    → WaitingRun (used_record u.held.n nb cs used)
    (get_or steps k other ∷ []) (at + k) mid nb' cs' used' after
    → WaitingRun u (take (suc k) steps) at before nb' cs' used' after
ran-next u steps k at other inside before room nb cs used mid R nb' cs' used' after S =
    subst (λ t. WaitingRun u t at before nb' cs' used' after) (sym (take-suc steps k other inside))
    (ran_on u (take k steps) at before nb cs used mid R (omega (arith, long)) (get_or steps k other ∷ []) nb' cs' used'
    after
    (subst (λ m. WaitingRun (used_record u.held.n nb cs used) (get_or steps k other ∷ []) (at + m) mid nb' cs' used'
    after)
    (sym long) S))
  where
    long : length (take k steps) ≡ k
    long = length-take-le k steps (omega arith)

-- ---- the loop over a lent slice
-- after k of the steps, with `rest` of them to run
pub record Upto (u : UsedRecord) (steps : List Step) (at : ℕ) (before : List ℕ) (rest k : ℕ) (nb cs : List ℕ) (used : ℕ)
    (mid : List ℕ) : Type 0 where
  pub count : k + rest ≡ length steps
  pub fits : used < 2 ^ 64
  pub ran : WaitingRun u (take k steps) at before nb cs used mid
  pub neighbours-long : length nb ≡ length u.held.neighbours
  pub codes-long : length cs ≡ length u.held.codes
  pub answers-long : length mid ≡ length before

module _ (u : UsedRecord) (steps : List Step) (at : ℕ) (before : List ℕ) where
  pub upto-none : u.used < 2 ^ 64
      → Upto u steps at before (length steps) 0 u.held.neighbours u.held.codes u.used before
  upto-none fits =
      record {
        count = omega arith;
        fits = fits;
        ran = none-ran u at before;
        neighbours-long = refl;
        codes-long = refl;
        answers-long = refl;
      }

  module _ (rest k : ℕ) (nb cs : List ℕ) (used : ℕ) (mid : List ℕ) where
    -- a step more
    pub upto_next : Upto u steps at before (suc rest) k nb cs used mid → at + length steps ≤ length before →
        (other : Step)
        → (nb' cs' : List ℕ) (used' : ℕ) (after : List ℕ) → used' < 2 ^ 64 → length nb' ≡ length nb → length cs' ≡
        length cs
        → length after ≡ length mid
        → WaitingRun (used_record u.held.n nb cs used)
        (get_or steps k other ∷ []) (at + k) mid nb' cs' used' after
        → Upto u steps at before rest (suc k) nb' cs' used' after
    upto_next U room other nb' cs' used' after fits n c a R =
        record {
          count = omega (arith, U.count);
          fits = fits;
          ran = ran-next u steps k at other (omega (arith, U.count)) before room nb cs used mid U.ran nb' cs' used'
              after R;
          neighbours-long = n ∙ U.neighbours-long;
          codes-long = c ∙ U.codes-long;
          answers-long = a ∙ U.answers-long;
        }

    -- what a step asks
    pub upto-asks : Upto u steps at before (suc rest) k nb cs used mid → at + length steps ≤ length before
        → ReadyAt at before u
        → (at + k < length mid)
        × ReadyAt (at + k) mid (used_record u.held.n nb cs used)
    upto-asks U room K = (
      omega (arith, U.count, U.answers-long),
      subst (λ m. ReadyAt (at + m) mid (used_record u.held.n nb cs used))
          (length-take-le k steps (omega (arith, U.count)))
          (U.ran.ready K),
    )

    -- all of them
    pub upto_all : Upto u steps at before 0 k nb cs used mid → WaitingRun u steps at before nb cs used mid
    upto_all U = subst (λ t. WaitingRun u t at before nb cs used mid) (take_all k steps (omega (arith, U.count)))
        U.ran
