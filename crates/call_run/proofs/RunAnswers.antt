-- The call over many steps, from what the functions below it answer.
use mathlib.Core.Bool.{Bool, false, ◌||◌}
use mathlib.Core.List.{List, map, ◌∷◌}
use mathlib.Core.Path.{◌∙◌, ◌≡◌, ap, ap₂, refl, subst, sym}
use Prim.Native.Nat.{◌<◌, ℕ}
use native.Mathlib.Nat.{le_of_eq}
use lib.Dec.{ltb}
use lib.ListN.{get_or, length, length-map, take}
use lib.Seq.{take_all}
use Rattle.buffers.proofs.Tabulate.{tabulate-is}
use Rattle.buffers.specs.Buffers.{tabulate}
use Rattle.buffers.specs.Refusals.{first_fitting, line, other_than, reaching}
use Rattle.buffers.proofs.Calling.{done, refused}
use Rattle.buffers.specs.Calls.{Call}
use Rattle.jobs.proofs.ParallelLaws.{steps-long}
use Rattle.jobs.specs.Runs.{step_answers}
use Rattle.jobs.specs.declared.Answer.{Answer}
use Rattle.jobs.specs.declared.Step.{Step}
use Rattle.jobs.specs.internal.Parallel.{OneLength}
use Rattle.jobs.proofs.StepAnswers.{each-answered, part-at}
use Rattle.call_run.proofs.KeptAnswers.{kept-tells}
use Rattle.call_run.specs.internal.LentRuns.{LentRun}
use Rattle.stabilizer.proofs.SharedTests.{has-length}
use Rattle.operations.specs.Used.{UsedRecord, UsedUnrefused, used_lines}
use Rattle.words.proofs.Flags.{neither}
use Rattle.calls.proofs.RunLines.{after-15, no-further-argument}
use Rattle.call_run.proofs.Telling.{determined_at, outcome_at, refusal_at}
use Rattle.calls.specs.Runs.{LentSteps, one_other_than, other_lengths, run_call, run_lines, steps_of}

-- three slices have m places
all-long : (m : ℕ) (x y z : List ℕ) → one_other_than m x y z ≡ false
    → (length x ≡ m) × (length y ≡ m) × (length z ≡ m)
all-long m x y z e =
    let h = neither (other_than m x) (other_than m y || other_than m z) e in
    let g = neither (other_than m y) (other_than m z) h.1 in
    (has-length m x h.0, has-length m y g.0, has-length m z g.1)

-- a call that is not refused: what it may pass on
pub record Ready (u : UsedRecord) (s : LentSteps) : Type 0 where
  pub held : UsedUnrefused u
  pub asked : OneLength s.ops s.a s.b s.value
  pub refusals : length s.refusals ≡ length s.ops
  pub outcomes : length s.outcomes ≡ length s.ops
  pub determined : length s.determined ≡ length s.ops

ready : (u : UsedRecord) (s : LentSteps) → first_fitting (run_lines u s) ≡ 0 → Ready u s
ready u s z =
    record {
      held = h.0;
      asked = record { first = q.0; second = q.1; values = q.2 };
      refusals = r.0;
      outcomes = r.1;
      determined = r.2;
    }
  where
    h : UsedUnrefused u × (other_lengths s ≡ false)
    h = no-further-argument u (other_lengths s) (reaching 7 s.ops) (after-15 _ _ z)

    both : (one_other_than (length s.ops) s.a s.b s.value ≡ false)
        × (one_other_than (length s.ops) s.refusals s.outcomes s.determined ≡ false)
    both = neither (one_other_than (length s.ops) s.a s.b s.value)
        (one_other_than (length s.ops) s.refusals s.outcomes s.determined) h.1

    q : (length s.a ≡ length s.ops) × (length s.b ≡ length s.ops) × (length s.value ≡ length s.ops)
    q = all-long (length s.ops) s.a s.b s.value both.0

    r : (length s.refusals ≡ length s.ops) × (length s.outcomes ≡ length s.ops)
        × (length s.determined ≡ length s.ops)
    r = all-long (length s.ops) s.refusals s.outcomes s.determined both.1

-- ---- one part of the kept answers, in a table
module _ (u : UsedRecord) (steps : List Step) (before nb cs : List ℕ) (used : ℕ) (kept : List ℕ)
    (R : LentRun u steps 0 before nb cs used kept) (long : length kept ≡ length steps) where
  none : Answer
  none = record { refusal = 0; outcome = 0; determined = 0 }

  part-told : (f : Answer → ℕ) (g : ℕ → ℕ)
      → ((k : ℕ) → k < length steps → g k ≡ f (get_or (step_answers u steps) k none))
      → tabulate (length kept) g ≡ map f (step_answers u steps)
  part-told f g h =
      sym (tabulate-is (length kept) g (map f (step_answers u steps))
      (length-map (step_answers u steps) f ∙ each-answered u steps ∙ sym long)
      (λ k l. let inside = subst (λ m. k < m) long l in
      part-at f (step_answers u steps) k none (subst (λ m. k < m) (sym (each-answered u steps)) inside)
      ∙ sym (h k inside)))

  numbers-told : tabulate (length kept) (refusal_at kept) ≡ map (λ r. r.refusal) (step_answers u steps)
  numbers-told = part-told (λ r. r.refusal) (refusal_at kept)
      (λ k l. (kept-tells u steps before nb cs used kept R k none l).0)

  outcomes-told : tabulate (length kept) (outcome_at kept) ≡ map (λ r. r.outcome) (step_answers u steps)
  outcomes-told = part-told (λ r. r.outcome) (outcome_at kept)
      (λ k l. (kept-tells u steps before nb cs used kept R k none l).1.0)

  determined-told : tabulate (length kept) (determined_at kept) ≡ map (λ r. r.determined) (step_answers u steps)
  determined-told = part-told (λ r. r.determined) (determined_at kept)
      (λ k l. (kept-tells u steps before nb cs used kept R k none l).1.1)

-- ---- the call
module _ (u : UsedRecord) (s : LentSteps) (asked answered : Bool)
    (ea : asked ≡ one_other_than (length s.ops) s.a s.b s.value)
    (eb : answered ≡ one_other_than (length s.ops) s.refusals s.outcomes s.determined) (k : ℕ)
    (e : k ≡ first_fitting (line 15 (ltb 4096 (length s.ops))
    ∷ used_lines u (asked || answered) false (reaching 7 s.ops))) where
  at-lines : k ≡ first_fitting (run_lines u s)
  at-lines = e ∙ ap (λ b. first_fitting (line 15 (ltb 4096 (length s.ops)) ∷ used_lines u b false
      (reaching 7 s.ops)))
      (ap₂ ◌||◌ ea eb)

  pub run-refused : (k ≡ 0 → ⊥) → Call (run_call u s u.held.neighbours u.held.codes u.used s.refusals
      s.outcomes s.determined) k
  run-refused h = refused _ at-lines h (refl, (refl, (refl, (refl, (refl, (refl, tt))))))

  module _ (z : k ≡ 0) where
    pub run-ready : Ready u s
    run-ready = ready u s (sym at-lines ∙ z)

    pub run-accepted : (nb cs : List ℕ) (used : ℕ) (kept refusals outcomes determined : List ℕ)
        → LentRun u (take (length s.ops) (steps_of s)) 0 s.refusals nb cs used kept
        → length kept ≡ length s.refusals
        → refusals ≡ tabulate (length kept) (refusal_at kept)
        → outcomes ≡ tabulate (length kept) (outcome_at kept)
        → determined ≡ tabulate (length kept) (determined_at kept)
        → Call (run_call u s nb cs used refusals outcomes determined) 0
    run-accepted nb cs used kept refusals outcomes determined R long er eo ed = done _ at-lines z (
      ran.marks,
      (
        ran.words,
        (
          ran.numbers,
          (
            er ∙ numbers-told u (steps_of s) s.refusals nb cs used kept ran as_long,
            (
              eo ∙ outcomes-told u (steps_of s) s.refusals nb cs used kept ran as_long,
              (ed ∙ determined-told u (steps_of s) s.refusals nb cs used kept ran as_long, tt),
            ),
          ),
        ),
      ),
    )
      where
        steps-are : length (steps_of s) ≡ length s.ops
        steps-are = steps-long s.ops s.a s.b s.value

        ran : LentRun u (steps_of s) 0 s.refusals nb cs used kept
        ran = subst (λ t. LentRun u t 0 s.refusals nb cs used kept)
            (take_all (length s.ops) (steps_of s) (le_of_eq steps-are)) R

        as_long : length kept ≡ length (steps_of s)
        as_long = long ∙ run-ready.refusals ∙ sym steps-are
