-- Many steps in one call: its lines and answers are as demand 1 has them, and which arguments it accepts.
use mathlib.Core.Bool.{Bool, false, not, ◌||◌}
use mathlib.Core.List.{List, map, ◌∷◌}
use mathlib.Core.Logic.Iff
use mathlib.Core.Logic.{◌↔◌}
use mathlib.Core.Path.{◌∙◌, ◌≡◌, refl, sym}
use Prim.Native.Nat.{ℕ}
use lib.Dec.{eqb, ltb}
use lib.ListN.{length, length-map}
use borrow.Author.Tests.{le-ltb, ltb-false}
use Rattle.buffers.proofs.Lines.{not-held, passed}
use Rattle.buffers.proofs.Reaching.{below_all}
use Rattle.buffers.specs.Refusals.{first_fitting, line, reaching}
use Rattle.calls.specs.Runs.{LentSteps, one_other_than, other_lengths, run_call, run_lines, steps_of}
use Rattle.claims.proofs.LinesExactly.{both-pass, three-fit}
use Rattle.claims.proofs.UsedExactly.{used-exactly}
use Rattle.claims.proofs.families.Shared.{by_lines}
use Rattle.claims.specs.Conforming.{Conforms}
use Rattle.buffers.specs.Calls.{Call}
use Rattle.jobs.proofs.ParallelLaws.{steps-long}
use Rattle.jobs.proofs.Printing.{Sized, run-sized}
use Rattle.jobs.specs.Runs.{run, step_answers}
use Rattle.jobs.specs.declared.Answer.{Answer}
use Rattle.jobs.proofs.StepAnswers.{each-answered}
use Rattle.stabilizer.proofs.SharedTests.{below-passes}
use Rattle.operations.specs.Used.{UsedRecord, UsedUnrefused, used_lines}
use Rattle.words.proofs.Flags.{neither}
use Rattle.claims.specs.RunDemand.{RunBuffersUnread, RunFits, StepsFit}

module _ (u : UsedRecord) (s : LentSteps) where
  abbrev count : ℕ
  count = length s.ops

  -- line 4 does not hold of the slices exactly if each has a place for each step
  lengths-exactly : (other_lengths s ≡ false)
      ↔ (((length s.a ≡ count) × (length s.b ≡ count) × (length s.value ≡ count))
      × ((length s.refusals ≡ count) × (length s.outcomes ≡ count) × (length s.determined ≡ count)))
  lengths-exactly = (
    (λ e. let h = neither (one_other_than count s.a s.b s.value)
        (one_other_than count s.refusals s.outcomes s.determined) e in (
          (three-fit count count count s.a s.b s.value).0 h.0,
          (three-fit count count count s.refusals s.outcomes s.determined).0 h.1,
        )),
    (λ h. both-pass ((three-fit count count count s.a s.b s.value).1 h.0)
        ((three-fit count count count s.refusals s.outcomes s.determined).1 h.1)),
  )

  -- no line holds exactly if the arguments fit
  pub run-exactly : (first_fitting (run_lines u s) ≡ 0) ↔ RunFits u s
  run-exactly = (
    (λ e. let h = not-held 14 (ltb 4096 count) _ e in
        let x = (used-exactly u (other_lengths s) false (reaching 7 s.ops)).0 h.1 in
        let l = lengths-exactly.0 x.1 in
        record {
          held = x.0;
          steps = record {
            few = ltb-false 4096 count h.0;
            operations = below_all 7 s.ops x.3;
            a-places = l.0.0;
            b-places = l.0.1;
            value-places = l.0.2;
            refusals-places = l.1.0;
            outcomes-places = l.1.1;
            determined-places = l.1.2;
          };
        }),
    (λ F. let S = F.steps in
        passed 15 _ (le-ltb 4096 count S.few) ∙ (used-exactly u (other_lengths s) false (reaching 7 s.ops)).1 (
          F.held,
          lengths-exactly.1 (
            (S.a-places, S.b-places, S.value-places),
            (S.refusals-places, S.outcomes-places, S.determined-places),
          ),
          refl,
          below-passes 7 s.ops S.operations,
        )),
  )

  -- ---- its answers fill their buffers
  module _ (F : RunFits u s) where
    sized : Sized u.held.n (run u (steps_of s)).held
    sized =
        let A = F.held.held in
        run-sized u.held.n u (record {
          qubits = refl;
          neighbours-long = A.neighbours-length;
          codes-long = A.codes-length;
          codes-small = λ q l. A.codes-below q;
        }) (steps_of s)

    part-fills : (f : Answer → ℕ) (old : List ℕ) → length old ≡ count
        → length (map f (step_answers u (steps_of s))) ≡ length old
    part-fills f old e =
        length-map (step_answers u (steps_of s)) f ∙ each-answered u (steps_of s)
        ∙ steps-long s.ops s.a s.b s.value ∙ sym e

  pub run-conforms : (nb' cs' : List ℕ) (used' : ℕ) (refusals' outcomes' determined' : List ℕ)
      → Conforms (run_call u s nb' cs' used' refusals' outcomes' determined')
  run-conforms nb' cs' used' refusals' outcomes' determined' =
      record {
        order = refl;
        complete = λ z. let F = run-exactly.0 z in (
          tt,
          (
            (sized F).neighbours-long ∙ sym F.held.held.neighbours-length,
            (
              (sized F).codes-long ∙ sym F.held.held.codes-length,
              (
                part-fills F (λ r. r.refusal) s.refusals F.steps.refusals-places,
                (
                  part-fills F (λ r. r.outcome) s.outcomes F.steps.outcomes-places,
                  (part-fills F (λ r. r.determined) s.determined F.steps.determined-places, tt),
                ),
              ),
            ),
          ),
        );
      }

  pub run-accepted-exactly : (nb' cs' : List ℕ) (used' : ℕ) (refusals' outcomes' determined' : List ℕ) (r : ℕ)
      → Call (run_call u s nb' cs' used' refusals' outcomes' determined') r → (r ≡ 0) ↔ RunFits u s
  run-accepted-exactly nb' cs' used' refusals' outcomes' determined' r C = Iff.trans (by_lines C) run-exactly

  -- every record that no line refuses is taken
  pub run-taken : (nb' cs' : List ℕ) (used' : ℕ) (refusals' outcomes' determined' : List ℕ) (r : ℕ)
      → Call (run_call u s nb' cs' used' refusals' outcomes' determined') r → UsedUnrefused u → StepsFit s → r ≡ 0
  run-taken nb' cs' used' refusals' outcomes' determined' r C U S =
      (run-accepted-exactly nb' cs' used' refusals' outcomes' determined' r C).1
      (record { held = ((used-exactly u false false false).0 U.no_line).0; steps = S })

-- ---- the lines read the lengths of the slices alone
pub run-buffers-unread : RunBuffersUnread
run-buffers-unread u s t eo ea eb ev er ec ed =
    λ i. first_fitting (line 15 (ltb 4096 (length (eo i)))
    ∷ used_lines u (differ (length (eo i)) (ea i) (eb i) (ev i) || differ (length (eo i)) (er i) (ec i) (ed i)) false
    (reaching 7 (eo i)))
  where
    differ : ℕ → ℕ → ℕ → ℕ → Bool
    differ m x y z = not (eqb x m) || (not (eqb y m) || not (eqb z m))
