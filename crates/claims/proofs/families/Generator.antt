-- The generator: its lines and answers are as demand 1 has them, and which arguments it accepts.
use mathlib.Core.Bool.{Bool, not}
use mathlib.Core.List.{[], List, ◌∷◌}
use mathlib.Core.Logic.Iff
use mathlib.Core.Logic.{◌↔◌}
use mathlib.Core.Path.{ap, refl, ◌≡◌}
use Prim.Native.Nat.{ℕ}
use native.Mathlib.Omega.{arith}
use borrow.Author.Tests.{eqb-false, le-ltb, ltb-false, ne_eqb}
use lib.Dec.{eqb, ltb}
use Rattle.buffers.specs.Refusals.{bad_count, first_fitting, line, Refusal}
use Rattle.calls.proofs.GenerateCalls.{accepted-job}
use Rattle.calls.specs.Generation.{generate_call}
use Rattle.buffers.proofs.Fitting.{none-fits-of, none-holds}
use Rattle.jobs.proofs.Lengths.{length-text}
use Rattle.jobs.specs.Drawn.{generated_text}
use Rattle.jobs.specs.GeneratedLines.{generate_lines, room}
use Rattle.stabilizer.proofs.SharedTests.{count-passes, counted, has-length, length-passes}
use Rattle.claims.proofs.families.Shared.{by_lines, written-fills}
use Rattle.claims.specs.Conforming.{Conforms}
use Rattle.claims.specs.families.Generator.{
  GenerateFits,
  GenerationBuffersUnread,
  GenerationsAccepted,
  GenerationsConform,
}

-- the generator
generate-conforms : (n count seed : ℕ) (text : List ℕ) (size : ℕ) (text' : List ℕ) (size' : ℕ) →
    Conforms (generate_call n count seed text size text' size')
generate-conforms n count seed text size text' size' =
    record {
      order = refl;
      complete = λ z. let job = accepted-job n count seed text z in
          let fits = length-text {n = n} job.1 count seed job.0 job.2 in
          (written-fills (generated_text n count seed) text (omega (arith, fits, job.3)), (tt, tt));
    }

-- the generator
generate-lines : (n count seed : ℕ) (text : List ℕ) →
    (first_fitting (generate_lines n count seed text) ≡ 0) ↔ GenerateFits n count seed text
generate-lines n count seed text = (
  (λ e. let h = none-holds (generate_lines n count seed text) refl e in
      let between = counted n h.1.0 in
      record {
        few = ltb-false 4096 count h.0;
        positive = between.0;
        upto = between.1;
        places = has-length room text h.1.1.0;
        seeded = eqb-false seed 0 h.1.1.1.0;
      }),
  (λ F. none-fits-of (generate_lines n count seed text) (
    le-ltb 4096 count F.few,
    (
      count-passes n F.positive F.upto,
      (length-passes room text F.places, (ne_eqb seed 0 F.seeded, tt)),
    ),
  )),
)

pub generations-conform : GenerationsConform
generations-conform =
    record {
      generations = generate-conforms;
    }

pub generation-buffers-unread : GenerationBuffersUnread
generation-buffers-unread =
    record {
      generations = λ n count seed text text₂ e. ap (λ a. first_fitting (job_lines_of n count seed (not (eqb a room)))) e;
    }
  where
    -- those of the generator, by whether its buffer has a wrong length
    job_lines_of : ℕ → ℕ → ℕ → Bool → List Refusal
    job_lines_of n count seed other =
        line 15 (ltb 4096 count) ∷ line 2 (bad_count n) ∷ line 4 other ∷ line 6 (eqb seed 0) ∷ []

pub generations-accepted : GenerationsAccepted
generations-accepted =
    record {
      generate = λ n count seed text size text' size' r C. Iff.trans (by_lines C) (generate-lines n count seed text);
    }
