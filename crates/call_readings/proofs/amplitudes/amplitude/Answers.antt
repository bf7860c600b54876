-- `amplitude` meets its contract: the first line that holds, or the bits of the three floats at y.
use mathlib.Core.Path.{ap, refl, subst, sym, ◌∙◌}
use Rattle.calls.specs.Amplitudes.{bits_of}
use Rattle.buffers.proofs.Calling.{done, refused}
use Rattle.buffers.proofs.RefusalLaws.{passed_on}
use Rattle.jobs.proofs.PlotNumbers.{all-numbers}
use Rattle.jobs.specs.internal.Numbers.{AllNumbers}
use Rattle.operations.specs.Used.{UsedRecord, used_record}
use Rattle.call_readings.proofs.AmplitudeLines.{amplitude-unrefused, line-held}
use Rattle.call_readings.proofs.amplitudes.amplitude.Goals as goal

pub returns-in_err-used_refusal : goal.returns-in_err-used_refusal
returns-in_err-used_refusal c =
    let R = passed_on _ _ c.from_residual.ensures.1 c.in_err-used_refusal.ensures in
    refused _ R.0 R.1 (refl, (refl, (refl, tt)))

pub plot_at-line-requires : goal.plot_at-line-requires
plot_at-line-requires c =
    let a = c.args in
    let u : UsedRecord = used_record a.n a.neighbours.now a.codes.now a.used in
    amplitude-unrefused u a.y (sym c.in_ok-used_refusal.ensures)

pub bits-requires : goal.bits-requires
bits-requires c = (subst AllNumbers (sym c.plot_at-line.ensures) (all-numbers _ _ _)).re

pub bits-requires-2 : goal.bits-requires-2
bits-requires-2 c = (subst AllNumbers (sym c.plot_at-line.ensures) (all-numbers _ _ _)).im

pub bits-requires-3 : goal.bits-requires-3
bits-requires-3 c = (subst AllNumbers (sym c.plot_at-line.ensures) (all-numbers _ _ _)).p

pub returns : goal.returns
returns c =
    let a = c.args in
    let u : UsedRecord = used_record a.n a.neighbours.now a.codes.now a.used in
    let l = line-held u a.y (sym c.in_ok-used_refusal.ensures) _ c.plot_at-line.ensures in
    done _ c.in_ok-used_refusal.ensures refl (
      c.bits.ensures ∙ ap (λ v. bits_of v.re) l,
      (
        c.bits-2.ensures ∙ ap (λ v. bits_of v.im) l,
        (c.bits-3.ensures ∙ ap (λ v. bits_of v.p) l, tt),
      ),
    )
