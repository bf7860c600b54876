-- `plot_line` meets its contract.
use borrow.Author.Rules.{rules}
use mathlib.Core.Path.{sym, ap, ◌∙◌}
use lib.Ieee.{of_bits}
use Rattle.amplitude.specs.Plotting.{nought, plotted}
use Rattle.amplitude_impl.proofs.lines.plot_line.Goals as goal

pub enum_told-1 : goal.enum_told-1
enum_told-1 c = search rules

pub returns-in-Nothing : goal.returns-in-Nothing
unfolding of_bits
returns-in-Nothing c = ap (λ a. plotted a c.args.r) (sym c.in-Nothing.is)

pub returns-in-Real : goal.returns-in-Real
unfolding of_bits
returns-in-Real c =
    ap (λ p. record { re = c.in-Real.v; im = nought; p = p }) c.halves.ensures
    ∙ ap (λ a. plotted a c.args.r) (sym c.in-Real.is)

pub returns-in-Imag : goal.returns-in-Imag
unfolding of_bits
returns-in-Imag c =
    ap (λ p. record { re = nought; im = c.in-Imag.v; p = p }) c.halves-in-Imag.ensures
    ∙ ap (λ a. plotted a c.args.r) (sym c.in-Imag.is)
