-- A text that is accepted is the text of the job that the reading holds.
use mathlib.Core.Path.{◌≡◌, sym, ap, ◌∙◌, subst}
use mathlib.Core.Bool.{false, not}
use mathlib.Core.List.{List, [], ◌∷◌}
use mathlib.Core.Logic.{⊎_elim}
use Prim.Native.Nat.{ℕ, ◌≤◌}
use native.Mathlib.Omega.{arith}
use lib.Dec.{ltb}
use lib.ListN.{length, take}
use borrow.Author.Tests.{ltb-false, not-false}
use Rattle.buffers.proofs.Lines.{not-held}
use Rattle.buffers.specs.Refusals.{bad_count, first_fitting, line}
use Rattle.stabilizer.proofs.SharedTests.{counted}
use Rattle.words.proofs.Sums.{lt-or-ge}
use Rattle.jobs.specs.JobLines.{job_lines}
use Rattle.jobs.specs.Text.{JobTextOf, HasJobForm}
use Rattle.jobs.specs.internal.Scan.{at_line, Judged, Reading, verdict}
use Rattle.jobs.proofs.KeptLaws.{count-many, count-few, steps-few}

-- t is the text of the job that w holds, on 1 to 64 qubits and with at most 4,096 steps
pub record Accepted (t : List ℕ) (w : Reading) : Type 0 where
  pub text : JobTextOf w.scan.n (take w.scan.count w.steps) t
  pub some : 1 ≤ w.scan.n
  pub upto : w.scan.n ≤ 64
  pub few : w.scan.count ≤ 4096
  pub long : length (take w.scan.count w.steps) ≡ w.scan.count

module _ (t : List ℕ) (w : Reading) (judged : Judged t w) (none : verdict w.scan ≡ 0) where
  formed : (not (at_line w.scan.place) ≡ false) × (first_fitting (job_lines w.scan.n w.scan.count) ≡ 0)
  unfolding verdict
  formed = not-held 0 (not (at_line w.scan.place)) (job_lines w.scan.n w.scan.count) none

  counts : (ltb 4096 w.scan.count ≡ false) × (first_fitting (line 2 (bad_count w.scan.n) ∷ []) ≡ 0)
  counts = not-held 14 (ltb 4096 w.scan.count) (line 2 (bad_count w.scan.n) ∷ []) formed.1

  few-steps : w.scan.count ≤ 4096
  few-steps = ltb-false 4096 w.scan.count counts.0

  some-qubits : (1 ≤ w.scan.n) × (w.scan.n ≤ 64)
  some-qubits = counted w.scan.n (not-held 1 (bad_count w.scan.n) [] counts.1).0

  has-form : HasJobForm t
  has-form = judged.form.0 (not-false (at_line w.scan.place) formed.0)

  pub accepted : Accepted t w
  accepted =
      let n = has-form.0 in
      let steps = has-form.1 in
      let kept = judged.job n steps has-form.2 in
      let few : length steps ≤ 4096 = ⊎_elim
      (λ many. absurd (omega (arith, count-many n steps w kept many, few-steps))) (λ h. h)
      (lt-or-ge 4096 (length steps)) in
      let same : take w.scan.count w.steps ≡ steps = steps-few n steps w kept few in
      record {
        text = subst (λ m. JobTextOf m (take w.scan.count w.steps) t) (sym kept.qubits)
            (subst (λ l. JobTextOf n l t) (sym same) has-form.2);
        some = some-qubits.0;
        upto = some-qubits.1;
        few = few-steps;
        long = ap length same ∙ sym (count-few n steps w kept few);
      }
