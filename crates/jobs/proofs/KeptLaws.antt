-- What is kept of a job of at most 4,096 steps is the job; a longer one has the count 4,097. So the number of a text
-- is the one that its scan ends with.
use mathlib.Core.Path.{◌≡◌, refl, sym, ap, ap₂, ◌∙◌}
use mathlib.Core.Logic.{⊎_elim}
use mathlib.Core.Bool.{Bool, true, false}
use mathlib.Core.List.{List, [], ◌∷◌}
use Prim.Native.Nat.{ℕ, ◌≤◌, ◌<◌}
use native.Mathlib.Nat.{min-eq_left, min-eq_right}
use native.Mathlib.Omega.{arith}
use lib.Dec.{ltb}
use lib.ListN.{length, take}
use lib.Seq.{take_all}
use borrow.Author.Tests.{lt-ltb}
use Rattle.buffers.specs.Refusals.{Refusal, line, first_fitting, bad_count}
use Rattle.jobs.specs.declared.Step.{Step}
use Rattle.words.proofs.Sums.{lt-or-ge}
use Rattle.jobs.specs.JobLines.{job_lines}
use Rattle.jobs.specs.internal.Lines.{text_lines, TextNumber}
use Rattle.jobs.specs.Text.{HasJobForm}
use Rattle.jobs.specs.internal.Scan.{at_line, Judged, Reading, StepsKept, verdict}

module _ (n : ℕ) (steps : List Step) (w : Reading) (kept : StepsKept n steps w) where
  pub count-many : 4096 < length steps → w.scan.count ≡ 4097
  count-many many = kept.count ∙ min-eq_right {n = 4097} {m = length steps} (omega arith)

  module _ (few : length steps ≤ 4096) where
    pub count-few : w.scan.count ≡ length steps
    count-few = kept.count ∙ min-eq_left {n = length steps} {m = 4097} (omega arith)

    -- the first `count` places of the array are the steps
    pub steps-few : take w.scan.count w.steps ≡ steps
    steps-few = ap (λ k. take k w.steps) count-few ∙ kept.steps ∙ take_all 4096 steps few

  -- the count tells whether there are more than 4,096
  count-tells : ltb 4096 w.scan.count ≡ ltb 4096 (length steps)
  count-tells = ⊎_elim
      (λ many. lt-ltb 4096 w.scan.count (omega (arith, count-many many))
      ∙ sym (lt-ltb 4096 (length steps) many))
      (λ few. ap (ltb 4096) (count-few few))
      (lt-or-ge 4096 (length steps))

  pub same_lines : first_fitting (job_lines w.scan.n w.scan.count) ≡ first_fitting (job_lines n (length steps))
  unfolding first_fitting
  same_lines =
      ap₂ (λ a b. first_fitting (lines a b)) kept.qubits count-tells
    where
      lines : ℕ → Bool → List Refusal
      lines a b = line 15 b ∷ line 2 (bad_count a) ∷ []

-- the scan of a text ends with the text's number
pub text-number : (t : List ℕ) (w : Reading) → Judged t w → TextNumber t (verdict w.scan)
unfolding verdict first_fitting
text-number t w judged =
    record {
      malformed = λ none. go (at_line w.scan.place) refl none;
      formed = λ n steps text.
          ap (λ b. first_fitting (text_lines b w.scan.n w.scan.count)) (judged.form.1 (n, steps, text))
          ∙ same_lines n steps w (judged.job n steps text);
    }
  where
    go : (b : Bool) → at_line w.scan.place ≡ b → (HasJobForm t → ⊥)
        → first_fitting (text_lines b w.scan.n w.scan.count) ≡ 1
    go true e none = absurd (none (judged.form.0 e))
    go false e none = refl
