-- What the loops of `print_table` keep.
use mathlib.Core.Path.{◌≡◌}
use Prim.Native.Nat.{◌≤◌}
use lib.ListN.{length}
use Rattle.amplitude.specs.Ratios.{plot_at}
use Rattle.operations.specs.internal.InPlace.{record_in}
use Rattle.jobs.specs.Table.{point_texts}
use Rattle.record.specs.Lent.{held_rows}
use Rattle.buffers.specs.Writing.{Printed}
use Rattle.jobs_replies.proofs.tables.print_table.Given as goal

abbrev pub invariant-loop-y : goal.invariant-loop-y
invariant-loop-y l =
    (l.y ≤ l.count)
    × Printed (point_texts l.y (plot_at (length l.neighbours) (held_rows (record_in l.neighbours l.codes)))) l.initial.at l.initial.out l.out l.at
    × (length l.out ≡ length l.initial.out)
