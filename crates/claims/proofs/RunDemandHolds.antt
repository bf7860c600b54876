-- Many steps in one call: the record that it leaves stands for the group after the steps, and the answers say what the
-- definitions say of the group that each step meets.
use mathlib.Core.Bool.{false}
use mathlib.Core.List.{List, map}
use mathlib.Core.Path.{◌∙◌, ◌≡◌, ap, refl, subst, sym}
use Prim.Native.Nat.{◌<◌, ℕ}
use lib.ListN.{get_or, length, take}
use Rattle.calls.proofs.RunLines.{after-15, no-further-argument}
use Rattle.calls.specs.Runs.{LentSteps, run_call, run_lines, steps_of}
use Rattle.claims.proofs.JobsStand.{runs-stand}
use Rattle.claims.proofs.StepLines.{line-says}
use Rattle.claims.proofs.families.Shared.{answered, at_zero}
use Rattle.claims.specs.ProgramDemand.{LineSays}
use Rattle.buffers.specs.Calls.{Call}
use Rattle.jobs.specs.Answer.{result_of}
use Rattle.jobs.proofs.ParallelLaws.{steps-at, steps-long}
use Rattle.jobs.proofs.Starting.{started-stands}
use Rattle.jobs.proofs.Stepwise.{answer_at, run-qubits}
use Rattle.jobs.specs.GroupsAfter.{Group, GroupAfter, StartGroup}
use Rattle.jobs.specs.Parallel.{numbered}
use Rattle.jobs.specs.Runs.{run, started, step_answers}
use Rattle.jobs.specs.Standing.{StandsFor, left}
use Rattle.jobs.specs.declared.Answer.{Answer}
use Rattle.jobs.specs.declared.Step.{Step}
use Rattle.jobs.proofs.StepAnswers.{each-answered, part-at}
use Rattle.operations.specs.Used.{UsedRecord, used_record}
use Rattle.claims.proofs.RunFitting.{run-accepted-exactly, run-buffers-unread, run-conforms, run-taken}
use Rattle.claims.specs.RunDemand.{RunDemand, RunSays, RunStands, answer_in, held_group, run_sentences}
use Rattle.buffers.proofs.SentenceLaws.{Matches, above, or-decides, or-none, some-above, stray}
use Rattle.claims.proofs.NumbersHold.{in_words, three}
use Rattle.record.proofs.RecordInWords.{code-above-23, misfits, stray-neighbour}
use Rattle.operations.proofs.UsedInWords.{used-in-words}

module _ (u : UsedRecord) (s : LentSteps) (nb cs : List ℕ) (used : ℕ) (refusals outcomes determined : List ℕ)
    (C : Call (run_call u s nb cs used refusals outcomes determined) 0) where
  abbrev steps : List Step
  steps = steps_of s

  -- the record that it leaves
  left-ran : ◌≡◌ {A = UsedRecord} (record { held = left u.held nb cs; used = used }) (run u steps)
  left-ran = λ i. used_record (sym (run-qubits u steps) i) (C.held.1.0 i) (C.held.1.1.0 i) (C.held.0 i)

  module _ (k : ℕ) (inside : k < length s.ops) where
    none : Answer
    none = record { refusal = 0; outcome = 0; determined = 0 }

    within : k < length steps
    within = subst (λ m. k < m) (sym (steps-long s.ops s.a s.b s.value)) inside

    abbrev here : Answer
    here = get_or (step_answers u steps) k none

    place : (f : Answer → ℕ) → get_or (map f (step_answers u steps)) k 0 ≡ f here
    place f = part-at f (step_answers u steps) k none (subst (λ m. k < m) (sym (each-answered u steps)) within)

    -- what the slices hold of step k
    told : answer_in refusals outcomes determined k ≡ result_of here
    told = λ i. record {
      refusal = (ap (λ t. get_or t k 0) C.held.1.1.1.0 ∙ place (λ r. r.refusal)) i;
      outcome = (ap (λ t. get_or t k 0) C.held.1.1.1.1.0 ∙ place (λ r. r.outcome)) i;
      determined = (ap (λ t. get_or t k 0) C.held.1.1.1.1.1.0 ∙ place (λ r. r.determined)) i;
    }

  module _ (G : Group) (S : StandsFor u G) where
    pub run-stands : RunStands u G s nb cs used refusals outcomes determined
    run-stands =
        record {
          group = subst (λ w. StandsFor w (GroupAfter u G steps)) (sym left-ran) (runs-stand u G S steps);
          steps = λ k l. let other = numbered 0 0 0 0 in
              subst (λ t. LineSays (run u (take k steps)) (GroupAfter u G (take k steps)) t
              (answer_in refusals outcomes determined k))
              (steps-at s.ops s.a s.b s.value k other l)
              (subst (LineSays (run u (take k steps)) (GroupAfter u G (take k steps)) (get_or steps k other))
              (sym (told k l ∙ ap result_of (answer_at u steps k other (none k l) (within k l))))
              (line-says _ _ (runs-stand u G S (take k steps)) (get_or steps k other)));
        }

  -- the record's own group
  own-group : StandsFor u (held_group u)
  own-group =
      record {
        still = (no-further-argument u _ _ (after-15 _ _ (sym C.number))).0.no_line;
        elements = λ p. ((λ h. h), (λ h. h));
      }

pub run-demand : RunDemand
run-demand =
    record {
      conforms = run-conforms;
      unread = run-buffers-unread;
      accepted = run-accepted-exactly;
      follows = λ u G S s nb cs used refusals outcomes determined C.
          run-stands u s nb cs used refusals outcomes determined C G S;
      jobs = λ n positive upto s nb cs used refusals outcomes determined C.
          run-stands (started n) s nb cs used refusals outcomes determined C (StartGroup n)
          (started-stands n positive upto);
    }

-- its lines in words
run-words : (u : UsedRecord) (s : LentSteps) → Matches (run_lines u s) (run_sentences u s)
run-words u s = (
  refl,
  (
    above 4096 (length s.ops),
    λ e. used-in-words u _ false _ _ _ _
        (or-decides (misfits u.held) (or-decides (three (length s.ops) s.a s.b s.value)
        (three (length s.ops) s.refusals s.outcomes s.determined)))
        (or-decides (stray-neighbour u.held) (or-none (stray u.held.n u.used)))
        (or-decides (code-above-23 u.held) (some-above 6 s.ops)),
  ),
)

-- what the documents say of the exported function, from its contract
pub run-says : (u : UsedRecord) (s : LentSteps) (nb' cs' : List ℕ) (used' : ℕ)
    (refusals' outcomes' determined' : List ℕ) (r : ℕ) →
    Call (run_call u s nb' cs' used' refusals' outcomes' determined') r →
    RunSays u s nb' cs' used' refusals' outcomes' determined' r
run-says u s nb' cs' used' refusals' outcomes' determined' r C =
    record {
      answered = answered (run-conforms u s nb' cs' used' refusals' outcomes' determined') C;
      accepted = run-accepted-exactly u s nb' cs' used' refusals' outcomes' determined' r C;
      numbers = in_words (run_sentences u s) (run-words u s) C;
      taken = run-taken u s nb' cs' used' refusals' outcomes' determined' r C;
      follows = λ z. let D = at_zero C z in
          run-stands u s nb' cs' used' refusals' outcomes' determined' D (held_group u)
          (own-group u s nb' cs' used' refusals' outcomes' determined' D);
    }
