-- The generator's demand, from the call's contract and the laws of the text.
use mathlib.Core.Path.{ap, ap₂, refl, subst, sym, ◌∙◌, ◌≡◌}
use lib.ListN.{drop, length, take}
use lib.Seq.{drop_at, take_at}
use Rattle.calls.proofs.GenerateCalls.{accepted-job}
use Rattle.jobs.proofs.Lengths.{length-text}
use Rattle.jobs.proofs.ReadsBack.{reads-back}
use Rattle.jobs.proofs.Shapes.{all-drawable, length-drawn}
use Rattle.jobs.specs.Drawn.{drawn, generated_text}
use Rattle.jobs.specs.GeneratedLines.{room}
use Rattle.jobs.specs.ReadBack.{ReadsBack}
use Prim.Native.Nat.{◌≤◌}
use Rattle.claims.specs.GeneratorDemand.{GeneratorDemand}

pub generator-demand : GeneratorDemand
generator-demand n count seed text size text' size' C =
    let job = accepted-job n count seed text (sym C.number) in
    let t = generated_text n count seed in
    let text-part : take size' text' ≡ t =
    ap₂ take C.held.1.0 C.held.0 ∙ take_at t (drop (length t) text) (length t) refl
    in
    let past-part : drop size' text' ≡ drop size' text =
    ap₂ drop C.held.1.0 C.held.0 ∙ drop_at t (drop (length t) text) (length t) refl
    ∙ ap (λ k. drop k text) (sym C.held.1.0)
    in
    record {
      steps = length-drawn n count seed;
      shapes = all-drawable n job.0 count seed;
      back =
          subst (ReadsBack n (drawn n count seed)) (sym text-part)
          (reads-back n job.0 job.1 count seed job.2);
      fits = subst (λ k. k ≤ room) (sym C.held.1.0) (length-text {n = n} job.1 count seed job.0 job.2);
      past = past-part;
    }
