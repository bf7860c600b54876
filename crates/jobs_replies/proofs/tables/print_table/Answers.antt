-- `print_table` meets its contract: the names, and the lines of the words below count.
use mathlib.Core.List.{◌++◌}
use mathlib.Core.Path.{◌≡◌, ap, refl, subst, sym}
use Prim.Native.Nat.{zero-le}
use native.Mathlib.Nat.{add-zero}
use native.Mathlib.Omega.{arith}
use lib.ListN.{length}
use borrow.Author.Rules.{rules}
use Rattle.amplitude.specs.Ratios.{plot_at}
use Rattle.operations.specs.internal.InPlace.{record_in}
use Rattle.jobs.proofs.PlotNumbers.{all-numbers}
use Rattle.jobs.proofs.TableLaws.{length-points, points-more}
use Rattle.jobs.specs.Table.{plot_names, point_text, point_texts, table_text}
use Rattle.jobs.specs.internal.Numbers.{AllNumbers}
use Rattle.record.specs.Lent.{held_rows}
use Rattle.buffers.proofs.Writing.{and_then, same-print, write-none}
use Rattle.buffers.specs.Writing.{Printed}
use Rattle.jobs_replies.proofs.tables.print_table.Goals as goal

pub loop-y-init : goal.loop-y-init
unfolding point_texts
loop-y-init c = (zero-le, record { end = sym (add-zero _); out = write-none _ _ }, refl)

pub line_at-line-requires : goal.line_at-line-requires
line_at-line-requires c =
    c.requires.plottable

pub overflow_cast-y : goal.overflow_cast-y
overflow_cast-y c =
    omega (arith, c.loop-y-test.true, c.requires.count_bound.0)

pub print_point-at-requires : goal.print_point-at-requires
print_point-at-requires c =
    let R = held_rows (record_in c.args.neighbours.now c.args.codes.now) in
    let points = plot_at (length c.args.neighbours.now) R in (
      omega (arith, c.loop-y-test.true, c.requires.count_bound.0),
      subst AllNumbers (sym c.line_at-line.ensures)
          (all-numbers (length c.args.neighbours.now) R c.loop-y.y),
      omega (
        arith,
        c.loop-y-test.true,
        length-points c.loop-y.y points,
        c.loop-y.invariant.1.end,
        c.loop-y.invariant.2,
        c.print_plot_names-at.ensures.end,
        c.print_plot_names-at.auto,
        c.requires.count_bound.1,
      ),
    )

pub loop-y-preserved : goal.loop-y-preserved
loop-y-preserved c =
    let points = plot_at (length c.args.neighbours.now)
    (held_rows (record_in c.args.neighbours.now c.args.codes.now)) in (
      search rules,
      same-print (points-more c.loop-y.y points)
          (and_then (omega (
            arith,
            c.loop-y-test.true,
            length-points c.loop-y.y points,
            c.print_plot_names-at.ensures.end,
            c.print_plot_names-at.auto,
            c.requires.count_bound.1,
          ))
          c.loop-y.invariant.1
          (same-print (ap (point_text c.loop-y.y) c.line_at-line.ensures) c.print_point-at.ensures)),
      search rules,
    )

pub returns : goal.returns
unfolding table_text
returns c =
    let points = plot_at (length c.args.neighbours.now)
    (held_rows (record_in c.args.neighbours.now c.args.codes.now)) in
    let all : c.loop-y.y ≡ c.args.count = omega arith in
    subst (λ k. Printed (plot_names ++ point_texts k points) 0 c.args.out.now c.loop-y.out c.loop-y.at) all
    (and_then (omega (arith, c.requires.count_bound.1)) c.print_plot_names-at.ensures c.loop-y.invariant.1)
