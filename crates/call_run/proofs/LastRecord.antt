-- A run from the first place on: before its first step nothing waits, and the record that is meant after its last is
-- the one that the definitions have.
use mathlib.Core.Bool.{false}
use mathlib.Core.List.{List}
use mathlib.Core.Path.{◌∙◌, ◌≡◌, ap, subst}
use Prim.Native.Nat.{ℕ}
use native.Mathlib.Nat.{zero-add}
use lib.ListN.{length}
use Rattle.call_run.specs.internal.Waiting.{meant}
use Rattle.jobs.specs.declared.Step.{Step}
use Rattle.operations.proofs.UsedPassing.{lines-pass}
use Rattle.operations.specs.Used.{UsedRecord, used_record, UsedUnrefused}
use Rattle.call_run.specs.internal.LentRuns.{LentRun, ReadyAt, WaitingRun, marked_before}

-- before the first step nothing waits
pub first-ready : (answers : List ℕ) (u : UsedRecord) → UsedUnrefused u → ReadyAt 0 answers u
first-ready answers u U =
    record {
      standing = record {
        sound = record { no_line = ((lines-pass u false false false).0 U.no_line).0 };
        checked = U;
      };
    }

module _ (u : UsedRecord) (steps : List Step) (count : ℕ) (long : length steps ≡ count)
    (before nb cs : List ℕ) (used : ℕ) (mid : List ℕ) (R : WaitingRun u steps 0 before nb cs used mid) where
  -- the record in the buffers after the last step
  abbrev last : UsedRecord
  last = used_record u.held.n nb cs used

  -- what is known of it
  pub last-ready : ReadyAt 0 before u → ReadyAt count mid last
  last-ready K = subst (λ i. ReadyAt i mid last) (zero-add (length steps) ∙ long) (R.ready K)

  -- the record that is meant, in the buffers
  pub last-settled : (nb' cs' : List ℕ)
      → ◌≡◌ {A = UsedRecord} (used_record u.held.n nb' cs' used)
      (meant (marked_before count mid) last)
      → LentRun u steps 0 before nb' cs' used mid
  last-settled nb' cs' e =
      record {
        words = ap (λ v. v.held.neighbours) e ∙ ran.words;
        numbers = ap (λ v. v.held.codes) e ∙ ran.numbers;
        marks = ran.marks;
        answers = ran.answers;
      }
    where
      ran : LentRun u steps 0 before (meant (marked_before count mid) last).held.neighbours
          (meant (marked_before count mid) last).held.codes used mid
      ran = subst (λ i. LentRun u steps 0 before (meant (marked_before i mid) last).held.neighbours
          (meant (marked_before i mid) last).held.codes used mid) (zero-add (length steps) ∙ long) R.ran
