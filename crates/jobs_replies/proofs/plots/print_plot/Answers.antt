-- `print_plot` meets its contract: reduces a list of at most 10 generators and prints its table, or the refusal's
-- number.
use mathlib.Core.Path.{refl}
use native.Mathlib.Omega.{arith}
use Rattle.buffers.proofs.RefusalLaws.{refuses}
use Rattle.stabilizer.specs.Lists.{GeneratorList}
use Rattle.buffers.proofs.Writing.{same-print}
use Rattle.jobs_replies.proofs.PlotAnswering.{reduced-length, reduced-plottable, reduced-unrefused, refused-plotted}
use Rattle.jobs_replies.proofs.PlotAnswering.{table-plotted, table-room}
use Rattle.jobs_replies.proofs.plots.print_plot.Goals as goal

pub lowest-low-requires : goal.lowest-low-requires
lowest-low-requires c =
    let a = c.args in
    let l : GeneratorList = record { n = a.n; signs = a.signs.now; z = a.z.now; x = a.x.now } in
    let long = reduced-length l _ _ _ _ _ c.requires _ _ _ c.in-Ok.ensures refl in
    record {
      unrefused = reduced-unrefused l _ _ _ _ _ c.requires _ _ _ c.in-Ok.ensures refl;
      words_len = (omega (arith, long, c.requires.words_long), omega (arith, long, c.requires.bytes-long));
    }

pub print_table-requires : goal.print_table-requires
print_table-requires c =
    let a = c.args in
    let l : GeneratorList = record { n = a.n; signs = a.signs.now; z = a.z.now; x = a.x.now } in
    record {
      plottable = reduced-plottable l _ _ _ _ _ c.requires _ _ _ c.in-Ok.ensures refl _ c.lowest-low.ensures;
      count_bound = table-room l _ _ _ _ _ c.requires _ c.single.ensures;
    }

pub returns-in-Ok : goal.returns-in-Ok
returns-in-Ok c =
    let a = c.args in
    let l : GeneratorList = record { n = a.n; signs = a.signs.now; z = a.z.now; x = a.x.now } in
    same-print (table-plotted l _ _ _ _ _ c.requires _ _ _ c.in-Ok.ensures refl _ c.single.ensures)
    c.print_table.ensures

pub print_refusal-requires : goal.print_refusal-requires
print_refusal-requires c = omega (arith, c.requires.room)

pub returns-in-Err : goal.returns-in-Err
returns-in-Err c =
    let a = c.args in
    let l : GeneratorList = record { n = a.n; signs = a.signs.now; z = a.z.now; x = a.x.now } in
    same-print (refused-plotted l _ _ _ _ _ c.requires _ _ _ c.in-Err.ensures (refuses c.in-Err.refusal))
    c.print_refusal.ensures
