-- `plot_answer` meets its contract: prints the answer to the list of n generators at the start of the buffers.
use mathlib.Core.Path.{refl, sym}
use Rattle.calls.proofs.PlotLines.{many-refused}
use Rattle.buffers.proofs.Parts.{part-long}
use Rattle.buffers.proofs.Writing.{same-print}
use Rattle.jobs_replies.proofs.PlotAnswering.{places-plotted}
use Rattle.jobs_replies.proofs.plots.plot_answer.Goals as goal

pub returns-then-n-gt10 : goal.returns-then-n-gt10
returns-then-n-gt10 c =
    same-print (sym (many-refused _ c.if-n-gt10.true)) c.print_refusal.ensures

pub slice_bounds-print_plot-end-4 : goal.slice_bounds-print_plot-end-4
slice_bounds-print_plot-end-4 c = sym (part-long _ _ c.if-n-gt10.false refl)

pub slice_bounds-print_plot-end-5 : goal.slice_bounds-print_plot-end-5
slice_bounds-print_plot-end-5 c = sym (part-long _ _ c.if-n-gt10.false refl)

pub slice_bounds-print_plot-end-6 : goal.slice_bounds-print_plot-end-6
slice_bounds-print_plot-end-6 c = sym (part-long _ _ c.if-n-gt10.false refl)

pub slice_bounds-print_plot-end-7 : goal.slice_bounds-print_plot-end-7
slice_bounds-print_plot-end-7 c = sym (part-long _ _ c.if-n-gt10.false refl)

pub print_plot-requires : goal.print_plot-requires
print_plot-requires c =
    record {
      few = c.if-n-gt10.false;
      neighbours-long = part-long _ _ c.if-n-gt10.false refl;
      codes-long = part-long _ _ c.if-n-gt10.false refl;
      words_long = part-long _ _ c.if-n-gt10.false refl;
      bytes-long = part-long _ _ c.if-n-gt10.false refl;
      room = c.requires;
    }

pub returns : goal.returns
returns c =
    same-print (places-plotted _ c.if-n-gt10.false _ _ _) c.print_plot.ensures
