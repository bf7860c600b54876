-- Blocks of steps: a block is filled place by place, and blocks run one behind the other.
use mathlib.Core.List.{◌++◌, List, [], ◌∷◌}
use mathlib.Core.Path.{◌∙◌, ◌≡◌, ap, refl, subst, sym}
use Prim.Native.Nat.{◌+◌, ◌≤◌, suc, zero, ℕ}
use native.Mathlib.Nat.{suc-add, zero-add}
use native.Mathlib.Omega.{arith}
use lib.ListN.{drop, length, take}
use lib.Seq.{length-take-le}
use Rattle.std.proofs.lemmas.List.{length-take}
use Rattle.std.proofs.Common.{length-drop}
use Rattle.buffers.proofs.Filling.{FilledBy, all-filled}
use Rattle.jobs.proofs.ParallelLaws.{block-is}
use Rattle.jobs.specs.declared.Step.{Step}
use Rattle.jobs.specs.Parallel.{numbered, step_in, steps_in}
use Rattle.call_run.proofs.LastRecord.{last-settled}
use Rattle.call_run.proofs.LentLaws.{none-ran, ran_on}
use Rattle.call_run.specs.internal.LentRuns.{LentRun, ReadyAt, WaitingRun, marked_before}
use Rattle.call_run.specs.internal.Waiting.{meant}
use Rattle.operations.specs.Used.{UsedRecord, used_record}

-- a block of 64 steps, those below k filled with the steps of the lists from a place on
abbrev pub BlockFilled : List ℕ → List ℕ → List ℕ → List ℕ → ℕ → List Step → ℕ → Type 0
BlockFilled ops a b value from steps k =
    FilledBy (numbered 0 0 0 0) 64 (λ j s. s ≡ step_in ops a b value (from + j)) steps k

module _ (ops a b value : List ℕ) (from : ℕ) where
  pub block-filled : (count k : ℕ) (steps : List Step) → count ≤ 64 → from + count ≤ length ops → count ≤ k
      → BlockFilled ops a b value from steps k → take count steps ≡ take count (drop from (steps_in ops a b value))
  block-filled count k steps few room end F = block-is ops a b value steps (numbered 0 0 0 0) from count room
      (omega (arith, F.long)) (all-filled (numbered 0 0 0 0) 64 _ steps k count F end)

take-nothing : (m : ℕ) → ◌≡◌ {A = List Step} (take m []) []
take-nothing zero = refl
take-nothing (suc m) = refl

take_more : (k m : ℕ) (l : List Step) → take k l ++ take m (drop k l) ≡ take (k + m) l
take_more zero m l = ap (λ i. take i l) (sym (zero-add m))
take_more (suc k) m [] = take-nothing m ∙ sym (take-nothing (suc k + m))
take_more (suc k) m (x ∷ l) = ap (λ t. x ∷ t) (take_more k m l) ∙ ap (λ i. take i (x ∷ l)) (sym (suc-add k m))

-- a block of which the first m are steps of the lists holds as many
pub filled-inside : (k m : ℕ) (block steps : List Step) → take m block ≡ take m (drop k steps) → k + m ≤ length steps
    → m ≤ length block
filled-inside k m block steps e room =
    omega (arith, length-take m block, length-take m (drop k steps), length-drop k steps, ap length e, room)

-- what is known before a block is known behind it
pub block-ready : (u : UsedRecord) (k m : ℕ) (block : List Step) → m ≤ length block
    → (before nb cs : List ℕ) (used : ℕ) (after : List ℕ) → WaitingRun u (take m block) k before nb cs used after
    → ReadyAt k before u
    → ReadyAt (k + m) after (used_record u.held.n nb cs used)
block-ready u k m block few before nb cs used after R K =
    subst (λ j. ReadyAt (k + j) after (used_record u.held.n nb cs used)) (length-take-le m block few) (R.ready K)

-- ---- blocks one behind the other
-- after k of the steps
pub record RunTo (u : UsedRecord) (steps : List Step) (count k : ℕ) (before nb cs : List ℕ) (used : ℕ) (mid : List ℕ)
    : Type 0 where
  pub bound : k ≤ count
  pub ran : WaitingRun u (take k steps) 0 before nb cs used mid

module _ (u : UsedRecord) (steps : List Step) (count : ℕ) (before : List ℕ) where
  pub run_none : RunTo u steps count 0 before u.held.neighbours u.held.codes u.used before
  run_none = record { bound = omega arith; ran = none-ran u 0 before }

  -- a block more
  pub run-block-more : (k m : ℕ) → k + m ≤ count → count ≤ length steps → count ≤ length before → (block : List Step)
      → take m block ≡ take m (drop k steps) → (nb cs : List ℕ) (used : ℕ) (mid : List ℕ)
      → RunTo u steps count k before nb cs used mid → (nb' cs' : List ℕ) (used' : ℕ) (after : List ℕ)
      → WaitingRun (used_record u.held.n nb cs used) (take m block) k mid
      nb' cs' used' after
      → RunTo u steps count (k + m) before nb' cs' used' after
  run-block-more k m few inside room block e nb cs used mid R nb' cs' used' after S =
      record {
        bound = few;
        ran = subst (λ t. WaitingRun u t 0 before nb' cs' used' after) (take_more k m steps)
            (ran_on u (take k steps) 0 before nb cs used mid R.ran (omega (arith, long)) (take m (drop k steps)) nb'
            cs'
            used' after
            (subst (λ t. WaitingRun (used_record u.held.n nb cs used) t (0 + length (take k steps)) mid
            nb' cs' used' after) e
            (subst (λ i. WaitingRun (used_record u.held.n nb cs used) (take m block) i mid nb' cs' used'
            after) (sym (zero-add (length (take k steps)) ∙ long)) S)));
      }
    where
      long : length (take k steps) ≡ k
      long = length-take-le k steps (omega arith)

  -- all of them, and the record that is meant
  pub run-all : (k : ℕ) (nb cs : List ℕ) (used : ℕ) (mid : List ℕ) → count ≤ k → count ≤ length steps
      → RunTo u steps count k before nb cs used mid → (nb' cs' : List ℕ)
      → ◌≡◌ {A = UsedRecord} (used_record u.held.n nb' cs' used)
      (meant (marked_before count mid) (used_record u.held.n nb cs used))
      → LentRun u (take count steps) 0 before nb' cs' used mid
  run-all k nb cs used mid end inside R nb' cs' e =
      last-settled u (take count steps) count (length-take-le count steps inside) before nb cs used mid
      (subst (λ i. WaitingRun u (take i steps) 0 before nb cs used mid) (here k R.bound end) R.ran) nb' cs' e
    where
      here : (k : ℕ) → k ≤ count → count ≤ k → k ≡ count
      here k a b = omega (arith, a, b)

-- all steps are run
pub at-end : (k count : ℕ) (answers : List ℕ) (u : UsedRecord) → k ≤ count → count ≤ k
    → ReadyAt k answers u → ReadyAt count answers u
at-end k count answers u a b K = subst (λ i. ReadyAt i answers u) same K
  where
    same : k ≡ count
    same = omega (arith, a, b)
