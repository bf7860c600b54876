-- The answer to a text that was scanned, by the verdict on the scan; and each text has one answer.
use mathlib.Core.Bool.{Bool, cond, false, not, true, true≢false}
use mathlib.Core.List.{List, []}
use mathlib.Core.Path.{◌∙◌, ◌≡◌, ap, ap₂, refl, subst, sym}
use Prim.Native.Nat.{◌<◌, ◌≤◌, suc, zero, ℕ}
use native.Mathlib.Decide.{ℕ_discrete}
use native.Mathlib.Omega.{arith}
use lib.Dec.{eqb, lit<, ltb}
use lib.ListN.{length, take}
use borrow.Author.Tests.{eq-eqb, eqb-false, ltb-false, ne_eqb}
use Rattle.buffers.proofs.Lines.{first_below, not-held}
use Rattle.buffers.specs.Refusals.{bad_count, first_fitting}
use Rattle.text.specs.Text.{refused_text}
use Rattle.words.proofs.Flags.{neither}
use Rattle.jobs.specs.Answer.{AnswersJob, run_text, job_answer_text}
use Rattle.jobs.specs.internal.Lines.{TextNumber, text_lines}
use Rattle.jobs.specs.JobLines.{job_lines}
use Rattle.jobs.specs.internal.Scan.{at_line, empty, fed, Judged, Reading, verdict}
use Rattle.jobs.specs.Text.{HasJobForm}
use Rattle.jobs.specs.declared.scan.Scan.{Scan}
use Rattle.jobs.proofs.KeptLaws.{steps-few, text-number}
use Rattle.jobs.proofs.Verdict.{empty-judged}

-- ---- numbers
pub verdict-small : (s : Scan) → verdict s < 100
unfolding verdict
verdict-small s = first_below 100 (text_lines (at_line s.place) s.n s.count) (lit< tt)
    (lit< tt, (lit< tt, (lit< tt, tt)))

-- a job that no line refuses is small
lines-pass : (n count : ℕ) → first_fitting (job_lines n count) ≡ 0 → (1 ≤ n) × (n ≤ 64) × (count ≤ 4096)
lines-pass n count e =
    let h15 = not-held 14 (ltb 4096 count) _ e in
    let h2 = not-held 1 (bad_count n) [] h15.1 in
    let sized = neither (eqb n 0) (ltb 64 n) h2.0 in
    (some n sized.0, ltb-false 64 n sized.1, ltb-false 4096 count h15.0)
  where
    some : (n : ℕ) → eqb n 0 ≡ false → 1 ≤ n
    some zero f = absurd (eqb-false 0 0 f refl)
    some (suc n) f = omega arith

pub accepted-small : (s : Scan) → verdict s ≡ 0 → (1 ≤ s.n) × (s.n ≤ 64) × (s.count ≤ 4096)
unfolding verdict
accepted-small s e = lines-pass s.n s.count (not-held 0 (not (at_line s.place)) _ e).1

module _ (t : List ℕ) (w : Reading) (scanned : w ≡ fed empty t) where
  judged : Judged t w
  judged = subst (Judged t) (sym scanned) (empty-judged t)

  number : TextNumber t (verdict w.scan)
  number = text-number t w judged

  -- a refused text
  pub refused-answers : (verdict w.scan ≡ 0 → ⊥) → AnswersJob t (refused_text (verdict w.scan))
  unfolding job_answer_text
  refused-answers h =
      record {
        malformed = λ none. ap refused_text (number.malformed none);
        formed = λ n steps T. let e = number.formed n steps T in
            ap refused_text e ∙ sym (ap (λ b. cond b (run_text n steps) (refused_text (first_fitting
            (job_lines n (length steps))))) (ne_eqb (first_fitting (job_lines n (length steps))) 0 (λ z. h (e ∙ z))));
      }

  -- an accepted one
  pub accepted-answers : verdict w.scan ≡ 0
      → AnswersJob t (run_text w.scan.n (take w.scan.count w.steps))
  unfolding job_answer_text
  accepted-answers z =
      record {
        malformed = λ none. absurd (differ (sym z ∙ number.malformed none));
        formed = λ n steps T. let e = sym (number.formed n steps T) ∙ z in
            ap₂ run_text (judged.job n steps T).qubits
            (steps-few n steps w (judged.job n steps T) (lines-pass n (length steps) e).2)
            ∙ sym (ap (λ b. cond b (run_text n steps) (refused_text (first_fitting (job_lines n (length steps)))))
            (eq-eqb (first_fitting (job_lines n (length steps))) 0 e));
      }
    where
      differ : ◌≡◌ {A = ℕ} 0 1 → ⊥
      differ e = omega arith

-- ---- one answer
module _ (t : List ℕ) where
  -- the text, scanned
  abbrev whole : Reading
  whole = fed empty t

  pub has-answer : (bytes : List ℕ) × AnswersJob t bytes
  has-answer = go (ℕ_discrete (verdict whole.scan) 0)
    where
      go : Dec (verdict whole.scan ≡ 0) → (bytes : List ℕ) × AnswersJob t bytes
      go (yes z) = (_, accepted-answers t whole refl z)
      go (no h) = (_, refused-answers t whole refl h)

  pub one_answer : (a b : List ℕ) → AnswersJob t a → AnswersJob t b → a ≡ b
  one_answer a b A B = go (at_line whole.scan.place) refl
    where
      J : Judged t whole
      J = empty-judged t

      go : (v : Bool) → at_line whole.scan.place ≡ v → a ≡ b
      go true e =
          let h = J.form.0 e in A.formed h.0 h.1 h.2 ∙ sym (B.formed h.0 h.1 h.2)
      go false e =
          let none : HasJobForm t → ⊥ = λ h. true≢false (sym (J.form.1 h) ∙ e) in
          A.malformed none ∙ sym (B.malformed none)
