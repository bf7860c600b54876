-- What is printed of the answers that a run kept is what is printed of its steps.
use mathlib.Core.List.{◌++◌, List}
use mathlib.Core.Path.{◌∙◌, ◌≡◌, ap, refl, subst, sym}
use Prim.Native.Nat.{◌<◌, suc, zero, ℕ}
use native.Mathlib.Omega.{arith}
use lib.ListN.{length}
use Rattle.jobs.specs.Answer.{no_answer, results_of}
use Rattle.jobs.specs.Results.{Result, result_line, result_lines}
use Rattle.jobs.specs.declared.Step.{Step}
use Rattle.call_run.proofs.KeptAnswers.{kept-tells}
use Rattle.call_run.specs.internal.LentRuns.{LentRun}
use Rattle.operations.specs.Used.{UsedRecord}
use Rattle.jobs_replies.specs.internal.Room.{result_in}

-- the lines of equal results
lines_same : (k : ℕ) (f g : ℕ → Result) → ((j : ℕ) → j < k → f j ≡ g j) → result_lines k f ≡ result_lines k g
unfolding result_lines
lines_same zero f g h = refl
lines_same (suc k) f g h =
    ap (λ t. t ++ result_line k (f k)) (lines_same k f g (λ j l. h j (omega (arith, l))))
    ∙ ap (λ r. result_lines k g ++ result_line k r) (h k (omega arith))

-- ---- the lines of a run
module _ (u : UsedRecord) (steps : List Step) (before nb cs : List ℕ) (used : ℕ) (after : List ℕ)
    (R : LentRun u steps 0 before nb cs used after) where
  each : (k : ℕ) → k < length steps → result_in after k ≡ results_of u steps k
  each k inside =
      let t = kept-tells u steps before nb cs used after R k no_answer inside in
      λ i. record { refusal = t.0 i; outcome = t.1.0 i; determined = t.1.1 i }

  pub lines-kept : (count : ℕ) → length steps ≡ count
      → result_lines count (result_in after) ≡ result_lines (length steps) (results_of u steps)
  lines-kept count e =
      lines_same count (result_in after) (results_of u steps) (λ j h. each j (subst (λ m. j < m) (sym e) h))
      ∙ ap (λ m. result_lines m (results_of u steps)) (sym e)
