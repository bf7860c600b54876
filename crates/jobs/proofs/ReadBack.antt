-- A written job is accepted, and reads back as its n and its steps.
use mathlib.Core.Path.{◌≡◌, refl, ◌∙◌}
use mathlib.Core.List.{List}
use Prim.Native.Nat.{ℕ, ◌≤◌}
use native.Mathlib.Omega.{arith}
use lib.ListN.{length, take}
use borrow.Author.Tests.{le-ltb, ne_eqb}
use Rattle.buffers.specs.Refusals.{first_fitting}
use Rattle.jobs.specs.declared.Step.{Step}
use Rattle.jobs.specs.JobLines.{job_lines}
use Rattle.jobs.specs.Text.{EachStepFits, job_text, JobTextOf}
use Rattle.jobs.specs.internal.Scan.{empty, fed, Reading, StepsKept, verdict}
use Rattle.jobs.proofs.KeptLaws.{count-few, steps-few, text-number}
use Rattle.jobs.proofs.Verdict.{empty-judged}

-- no line holds of a job on 1 to 64 qubits with at most 4,096 steps
pub lines-pass : (n count : ℕ) → 1 ≤ n → n ≤ 64 → count ≤ 4096 → first_fitting (job_lines n count) ≡ 0
unfolding first_fitting
lines-pass n count some upto few =
    simp (le-ltb 4096 count few, ne_eqb n 0 (λ e. omega arith), le-ltb 64 n upto)

module _ (n : ℕ) (steps : List Step) (some : 1 ≤ n) (upto : n ≤ 64) (few : length steps ≤ 4096)
    (fit : EachStepFits steps) where
  -- the reading of the written text
  abbrev pub back : Reading
  back = fed empty (job_text n steps)

  written : JobTextOf n steps (job_text n steps)
  written = record { few = omega arith; fit = fit; text = refl }

  kept : StepsKept n steps back
  kept = (empty-judged (job_text n steps)).job n steps written

  pub back-accepted : verdict back.scan ≡ 0
  back-accepted =
      (text-number (job_text n steps) back (empty-judged (job_text n steps))).formed n steps written
      ∙ lines-pass n (length steps) some upto few

  pub back-qubits : back.scan.n ≡ n
  back-qubits = kept.qubits

  pub back_count : back.scan.count ≡ length steps
  back_count = count-few n steps back kept few

  pub back-steps : take back.scan.count back.steps ≡ steps
  back-steps = steps-few n steps back kept few
