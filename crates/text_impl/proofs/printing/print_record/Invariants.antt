-- What the loops of `print_record` keep.
use mathlib.Core.Path.{◌≡◌}
use Prim.Native.Nat.{◌≤◌}
use lib.ListN.{length}
use Rattle.text.specs.Text.{qubit_lines}
use Rattle.buffers.specs.Writing.{Printed}
use Rattle.text_impl.proofs.printing.print_record.Given as goal

abbrev pub invariant-loop-q : goal.invariant-loop-q
invariant-loop-q l =
    (l.q ≤ l.n)
    × Printed (qubit_lines l.q l.neighbours l.codes l.used) l.initial.at l.initial.out l.out l.at × (length l.out ≡ length l.initial.out)
