-- What the programs print for a text, from what `list_reply` of text_replies and `job_reply` of jobs_replies ensure of
-- it.
use mathlib.Core.Bool.{cond, false, or-true, true, ◌||◌}
use mathlib.Core.List.{List, [], ◌∷◌}
use mathlib.Core.Logic.{◌⊎◌, ⊎_elim}
use mathlib.Core.Path.{◌∙◌, ◌≡◌, ap, refl, subst, sym}
use Prim.Native.Nat.{◌+◌, ◌<◌, ℕ, ◌≤◌}
use native.Mathlib.Nat.{zero-add}
use lib.Dec.{eqb, ltb}
use lib.ListN.{drop, get_or, length, take}
use lib.Seq.{take-append_seam, take-length}
use borrow.Author.Tests.{eq-eqb, le-ltb, lt-ltb, ne_eqb}
use Rattle.buffers.proofs.Lines.{fits, none-fits, passed}
use Rattle.buffers.specs.Refusals.{bad_count, first_fitting, line}
use Rattle.jobs.specs.Answer.{run_text, no_answer, job_answer_text as job_printed, result_of}
use Rattle.jobs.specs.JobLines.{job_lines}
use Rattle.jobs.proofs.Stepwise.{answer_at}
use Rattle.jobs.specs.GroupsAfter.{GroupAfter, StartGroup}
use Rattle.jobs.specs.Runs.{record_after, run, started}
use Rattle.jobs.specs.Standing.{StandsFor}
use Rattle.jobs.specs.declared.Step.{Step}
use Rattle.calls.specs.Lists.{check_lines}
use Rattle.calls.specs.ListAnswers.{list_answer as list_printed}
use Rattle.record.proofs.WrittenRecords.{reduced-held-same}
use Rattle.stabilizer.proofs.Accepted.{AcceptedList, accepted-list}
use Rattle.stabilizer.proofs.SharedTests.{count-passes}
use Rattle.stabilizer.specs.Lists.{GeneratorList, rows}
use Rattle.text.specs.Text.{record_text, refused_text}
use Rattle.buffers.specs.Writing.{Printed, overwritten}
use Rattle.claims.proofs.GatesFollow.{answer-reduced, answer-still}
use Rattle.claims.proofs.JobsStand.{jobs-stand}
use Rattle.claims.proofs.StepLines.{line-says}
use Rattle.claims.specs.ProgramDemand.{
  JobPrinted,
  JobTextsAnswered,
  LineSays,
  ListTextsAnswered,
  RecordPrinted,
  reduced_record,
}

-- the bytes in the buffer up to the end are those printed
pub bytes-printed : (bytes before after : List ℕ) (end : ℕ) → Printed bytes 0 before after end → take end after ≡ bytes
unfolding overwritten
bytes-printed bytes before after end P =
    ap (λ k. take k after) (P.end ∙ zero-add (length bytes)) ∙ ap (take (length bytes)) P.out
    ∙ take-append_seam bytes (drop (0 + length bytes) before)

-- ---- `reduce`
module _ (l : GeneratorList) where
  -- the print of its reduced record
  abbrev record_of : List ℕ
  record_of = record_text l.n (reduced_record l).neighbours (reduced_record l).codes 0

  list-refused : (first_fitting (check_lines l) ≡ 0 → ⊥) → list_printed l ≡ refused_text (first_fitting (check_lines l))
  unfolding list_printed
  list-refused h = ap (λ b. cond b record_of (refused_text (first_fitting (check_lines l)))) (ne_eqb _ 0 h)

  list-printed : first_fitting (check_lines l) ≡ 0 → list_printed l ≡ record_of
  unfolding list_printed
  list-printed z = ap (λ b. cond b record_of (refused_text (first_fitting (check_lines l)))) (eq-eqb _ 0 z)

  record-printed : (bytes : List ℕ) → bytes ≡ list_printed l → first_fitting (check_lines l) ≡ 0 → RecordPrinted l bytes
  record-printed bytes e z =
      record {
        printed = e ∙ list-printed z;
        still = answer-still l.n (rows l) A.proper A.formed.positive A.formed.upto;
        is-reduced = answer-reduced l.n (rows l) A.proper A.formed.positive A.formed.upto;
        group = reduced-held-same l.n (rows l) A.proper;
      }
    where
      A : AcceptedList l
      A = accepted-list l false z

pub list-texts-answered : ListTextsAnswered
list-texts-answered t before after end R =
    record {
      malformed = λ h. same ∙ R.answers.malformed h;
      refused = λ ls T h. same ∙ R.answers.formed ls T ∙ list-refused _ h;
      accepted = λ ls T z. record-printed _ _ (same ∙ R.answers.formed ls T) z;
    }
  where
    same : take end after ≡ R.bytes
    same = bytes-printed R.bytes before after end R.out

-- ---- `job`
module _ (n : ℕ) (steps : List Step) where
  -- the number of a text with the form
  number-many : 4096 < length steps → first_fitting (job_lines n (length steps)) ≡ 15
  number-many h = fits 15 _ (lt-ltb 4096 (length steps) h)

  module _ (few : length steps ≤ 4096) where
    number-sizes : (n ≡ 0) ⊎ (64 < n) → first_fitting (job_lines n (length steps)) ≡ 2
    number-sizes h =
        passed 15 (line 2 (bad_count n) ∷ []) (le-ltb 4096 (length steps) few) ∙ fits 2 [] (⊎_elim none many h)
      where
        none : n ≡ 0 → bad_count n ≡ true
        none z = ap (λ b. b || ltb 64 n) (eq-eqb n 0 z)

        many : 64 < n → bad_count n ≡ true
        many g = ap (λ b. eqb n 0 || b) (lt-ltb 64 n g) ∙ or-true (eqb n 0)

    module _ (positive : 1 ≤ n) (upto : n ≤ 64) where
      number-none : first_fitting (job_lines n (length steps)) ≡ 0
      number-none =
          passed 15 (line 2 (bad_count n) ∷ []) (le-ltb 4096 (length steps) few)
          ∙ passed 2 [] (count-passes n positive upto) ∙ none-fits

      job-printed : job_printed n steps ≡ run_text n steps
      unfolding job_printed
      job-printed = ap (λ k. cond (eqb k 0) (run_text n steps) (refused_text k)) number-none

      pub job-answered : (bytes : List ℕ) → bytes ≡ job_printed n steps → JobPrinted n steps bytes
      job-answered bytes e =
          record {
            printed = e ∙ job-printed;
            stands = subst (λ ss. StandsFor (run (started n) ss) (GroupAfter (started n) (StartGroup n) ss))
                (take-length steps) (jobs-stand n positive upto steps (length steps));
            lines = λ k other h. subst
                (λ a. LineSays (record_after n steps k) (GroupAfter (started n) (StartGroup n) (take k steps))
                (get_or steps k other) (result_of a))
                (sym (answer_at (started n) steps k other no_answer h))
                (line-says _ _ (jobs-stand n positive upto steps k) (get_or steps k other));
          }

  job-refused : (k : ℕ) → first_fitting (job_lines n (length steps)) ≡ k → eqb k 0 ≡ false
      → job_printed n steps ≡ refused_text k
  unfolding job_printed
  job-refused k e f =
      ap (λ m. cond (eqb m 0) (run_text n steps) (refused_text m)) e
      ∙ ap (λ b. cond b (run_text n steps) (refused_text k)) f

pub job-texts-answered : JobTextsAnswered
job-texts-answered t before after end R =
    record {
      malformed = λ h. same ∙ R.answers.malformed h;
      many = λ n steps T h. same ∙ R.answers.formed n steps T ∙ job-refused n steps 15 (number-many n steps h) refl;
      sizes = λ n steps T few h.
          same ∙ R.answers.formed n steps T ∙ job-refused n steps 2 (number-sizes n steps few h) refl;
      accepted = λ n steps T few positive upto.
          job-answered n steps few positive upto _ (same ∙ R.answers.formed n steps T);
    }
  where
    same : take end after ≡ R.bytes
    same = bytes-printed R.bytes before after end R.out
