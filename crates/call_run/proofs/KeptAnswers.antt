-- Answers that a run kept as one number each: what they tell is what its steps answer.
use mathlib.Core.Bool.{Bool, cond, false, true}
use mathlib.Core.List.{◌++◌, List, [], ◌∷◌}
use mathlib.Core.Path.{◌∙◌, ◌≡◌, ap, refl, subst, sym}
use Prim.Native.Nat.{◌%◌, ◌*◌, ◌+◌, ◌/◌, ◌<◌, suc, zero, ℕ}
use native.Mathlib.Nat.{le_of_suc-le-suc, not-suc-le-zero}
use native.Mathlib.Omega.{arith}
use lib.ListN.{drop, get_or, length}
use Rattle.jobs.specs.Runs.{after_step, answer_of, step_answers}
use Rattle.jobs.specs.declared.Answer.{Answer}
use Rattle.jobs.specs.declared.Step.{Step}
use Rattle.buffers.specs.Writing.{overwritten}
use Rattle.operations.specs.Used.{UsedRecord}
use Rattle.call_run.proofs.LentLaws.{answers-long}
use Rattle.call_run.proofs.MarkedSteps.{small-answer}
use Rattle.call_run.specs.internal.LentRuns.{LentRun, SmallAnswer, marked_before, packed, packed_answers}
use Rattle.jobs.specs.Asked.{number_of}
use Rattle.call_run.specs.internal.StepRuns.{next_waiting}

-- ---- an answer from its one number
abbrev pub Tells : ℕ → Answer → Type 0
Tells p r = (p / 4 % 32 ≡ r.refusal) × ((p / 2 % 2 ≡ r.outcome) × (p % 2 ≡ r.determined))

-- with the mark or without
told : (b : Bool) (r o d : ℕ) → r < 32 → o < 2 → d < 2 → ((cond b 128 0 + (r * 4 + o * 2 + d)) / 4 % 32 ≡ r)
    × (((cond b 128 0 + (r * 4 + o * 2 + d)) / 2 % 2 ≡ o) × ((cond b 128 0 + (r * 4 + o * 2 + d)) % 2 ≡ d))
told true r o d hr ho hd = (omega (arith, hr, ho, hd), (omega (arith, ho, hd), omega (arith, ho, hd)))
told false r o d hr ho hd = (omega (arith, hr, ho, hd), (omega (arith, ho, hd), omega (arith, ho, hd)))

packed-tells : (b : Bool) (r : Answer) → SmallAnswer r → Tells (packed b r) r
packed-tells b r S = told b r.refusal r.outcome r.determined S.refusal S.outcome S.determined

-- ---- places
get_d_front : (xs ys : List ℕ) (k : ℕ) → k < length xs → get_or (xs ++ ys) k 0 ≡ get_or xs k 0
get_d_front [] ys k h = absurd (not-suc-le-zero h)
get_d_front (x ∷ xs) ys zero h = refl
get_d_front (x ∷ xs) ys (suc k) h = get_d_front xs ys k (le_of_suc-le-suc h)

written_at : (out bytes : List ℕ) (k : ℕ) → k < length bytes → get_or (overwritten out 0 bytes) k 0 ≡ get_or bytes k 0
unfolding overwritten
written_at out bytes k h = get_d_front bytes (drop (0 + length bytes) out) k h

-- the number that is kept for step k
packed-at : (mark : Bool) (u : UsedRecord) (steps : List Step) (k : ℕ) (none : Answer) → k < length steps
    → Tells (get_or (packed_answers mark u steps) k 0) (get_or (step_answers u steps) k none)
unfolding packed_answers step_answers
packed-at mark u [] k none h = absurd (not-suc-le-zero h)
packed-at mark u (s ∷ rest) zero none h = packed-tells (next_waiting s.op (number_of u s) mark) (answer_of u s)
    (small-answer u s (answer_of u s) refl)
packed-at mark u (s ∷ rest) (suc k) none h =
    packed-at (next_waiting s.op (number_of u s) mark) (after_step u s) rest k none (le_of_suc-le-suc h)

-- ---- what place k of the kept answers tells
pub kept-tells : (u : UsedRecord) (steps : List Step) (before nb cs : List ℕ) (used : ℕ) (after : List ℕ)
    → LentRun u steps 0 before nb cs used after → (k : ℕ) (other : Answer) → k < length steps
    → Tells (get_or after k 0) (get_or (step_answers u steps) k other)
kept-tells u steps before nb cs used after R k other inside =
    subst (λ p. Tells p (get_or (step_answers u steps) k other)) (sym same)
    (packed-at (marked_before 0 before) u steps k other inside)
  where
    same : get_or after k 0 ≡ get_or (packed_answers (marked_before 0 before) u steps) k 0
    same =
        ap (λ t. get_or t k 0) R.answers
        ∙ written_at before (packed_answers (marked_before 0 before) u steps) k
        (subst (λ m. k < m) (sym (answers-long (marked_before 0 before) u steps)) inside)
