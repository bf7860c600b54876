-- Answers with a mark: the last mark of a run tells whether the record waits after it.
use mathlib.Core.Bool.{Bool, false, true}
use mathlib.Core.List.{◌++◌, List, [], ◌∷◌}
use mathlib.Core.Path.{◌∙◌, ◌≡◌, ap, refl, subst, sym}
use Prim.Native.Nat.{◌*◌, ◌+◌, ◌<◌, ◌≤◌, suc, zero, ℕ}
use native.Mathlib.Nat.{le_of_suc-le-suc, not-suc-le-zero, suc-add, zero-add}
use native.Mathlib.Omega.{arith}
use lib.Dec.{leb}
use lib.ListN.{drop, get_or, length, set, take}
use lib.Seq.{get_or-set_same}
use borrow.Author.Tests.{le-leb, lt-leb}
use Rattle.jobs.proofs.Printing.{outcome-small, refusal-small}
use Rattle.jobs.specs.Asked.{number_of}
use Rattle.jobs.specs.Runs.{after_step, answer_of, run}
use Rattle.jobs.specs.declared.Answer.{Answer}
use Rattle.jobs.specs.declared.Step.{Step}
use Rattle.call_run.specs.internal.StepRuns.{next_waiting}
use Rattle.buffers.specs.Writing.{overwritten}
use Rattle.operations.specs.Used.{UsedRecord}
use Rattle.call_run.specs.internal.LentRuns.{SmallAnswer, marked_before, packed, packed_answers}

-- ---- answers are small
pub small-answer : (u : UsedRecord) (s : Step) (r : Answer) → r ≡ answer_of u s → SmallAnswer r
small-answer u s r e = subst SmallAnswer (sym e) (record {
  refusal = omega (arith, refusal-small u s);
  outcome = (outcome-small u s).0;
  determined = (outcome-small u s).1;
})

-- ---- the mark of an answer
-- the mark can be told
pub mark-told : (b : Bool) (r : Answer) → SmallAnswer r → leb 128 (packed b r) ≡ b
mark-told true r S = le-leb 128 (128 + (r.refusal * 4 + r.outcome * 2 + r.determined)) (omega arith)
mark-told false r S = lt-leb 128 (0 + (r.refusal * 4 + r.outcome * 2 + r.determined))
    (omega (arith, S.refusal, S.outcome, S.determined))

-- the mark behind a place where an answer is kept
pub mark-kept : (before : List ℕ) (at p : ℕ) → at < length before → (b : Bool) (r : Answer) → SmallAnswer r → p ≡ packed
    b r
    → marked_before (at + 1) (set before at p) ≡ b
mark-kept before at p inside b r S e =
    ap (λ k. leb 128 (get_or (0 ∷ set before at p) k 0)) {x = at + 1} {y = suc at} (omega arith)
    ∙ ap (leb 128) (get_or-set_same before at p 0 inside ∙ e) ∙ mark-told b r S

-- ---- the last mark
-- the last answer of a list; p where there is none
abbrev pub last_of : ℕ → List ℕ → ℕ
last_of p [] = p
last_of p (x ∷ xs) = last_of x xs

-- the answers of further steps begin with the last mark
pub answers-append : (p : ℕ) (mark : Bool) → leb 128 p ≡ mark → (u : UsedRecord) (xs ys : List Step)
    → packed_answers mark u (xs ++ ys)
    ≡ packed_answers mark u xs ++ packed_answers (leb 128 (last_of p (packed_answers mark u xs))) (run u xs) ys
unfolding run packed_answers
answers-append p mark e u [] ys = ap (λ b. packed_answers b u ys) (sym e)
answers-append p mark e u (x ∷ xs) ys =
    ap (λ t. packed (next_waiting x.op (number_of u x) mark) (answer_of u x) ∷ t)
    (answers-append (packed (next_waiting x.op (number_of u x) mark) (answer_of u x))
    (next_waiting x.op (number_of u x) mark)
    (mark-told (next_waiting x.op (number_of u x) mark) (answer_of u x) (small-answer u x (answer_of u x) refl))
    (after_step u x) xs ys)

-- where it stands
last-of-front : (p : ℕ) (ys zs : List ℕ) → get_or (p ∷ (ys ++ zs)) (length ys) 0 ≡ last_of p ys
last-of-front p [] zs = refl
last-of-front p (y ∷ ys) zs = last-of-front y ys zs

behind-front : (p : ℕ) (xs : List ℕ) (at : ℕ) → at ≤ length xs → (ys zs : List ℕ) (m : ℕ)
    → get_or (p ∷ ((take at xs ++ ys) ++ zs)) (at + m) 0 ≡ get_or (get_or (p ∷ xs) at 0 ∷ (ys ++ zs)) m 0
behind-front p xs zero h ys zs m = ap (λ k. get_or (p ∷ (ys ++ zs)) k 0) (zero-add m)
behind-front p [] (suc at) h ys zs m = absurd (not-suc-le-zero h)
behind-front p (x ∷ xs) (suc at) h ys zs m =
    ap (λ k. get_or (p ∷ x ∷ ((take at xs ++ ys) ++ zs)) k 0) (suc-add at m)
    ∙ behind-front x xs at (le_of_suc-le-suc h) ys zs m

pub last-kept : (before : List ℕ) (at : ℕ) → at ≤ length before → (ys : List ℕ)
    → get_or (0 ∷ overwritten before at ys) (at + length ys) 0 ≡ last_of (get_or (0 ∷ before) at 0) ys
unfolding overwritten
last-kept before at h ys = behind-front 0 before at h ys (drop (at + length ys) before) (length ys)
    ∙ last-of-front (get_or (0 ∷ before) at 0) ys (drop (at + length ys) before)
