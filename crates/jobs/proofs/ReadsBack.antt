-- "The job text it writes must read back as the steps drawn": it is the text of these steps and of no other job.
use mathlib.Core.Path.{refl}
use mathlib.Core.List.{List}
use Prim.Native.Nat.{ℕ, ◌≤◌, ◌<◌}
use native.Mathlib.Omega.{arith}
use lib.ListN.{length}
use Rattle.jobs.specs.declared.Step.{Step}
use Rattle.jobs.specs.Text.{EachStepFits, JobTextOf}
use Rattle.jobs.proofs.ReadBack.{lines-pass}
use Rattle.jobs.proofs.Unique.{job-unique}
use Rattle.jobs.specs.Drawn.{drawn, generated_text}
use Rattle.jobs.specs.ReadBack.{ReadsBack}
use Rattle.jobs.proofs.Shapes.{all-drawable, all_fit, length-drawn}

module _ (n : ℕ) (some : 0 < n) (few : n ≤ 64) (count seed : ℕ) (short : count ≤ 4096) where
  abbrev steps : List Step
  steps = drawn n count seed

  abbrev text : List ℕ
  text = generated_text n count seed

  pub fit : EachStepFits steps
  fit = all_fit few steps (all-drawable n some count seed)

  -- the text has the form
  has-form : JobTextOf n steps text
  has-form = record { few = omega arith; fit = fit; text = refl }

  pub long : length steps ≤ 4096
  long = omega (arith, length-drawn n count seed)

  pub reads-back : ReadsBack n steps text
  reads-back = record {
    job = has-form;
    only = λ m others p. job-unique m n others steps text p has-form;
    accepted = lines-pass n (length steps) some few long;
  }
