-- What the loops of `spread` keep.
use Prim.Native.Nat.{◌≤◌}
use lib.ListN.{length}
use Rattle.comparison_parts.proofs.Spreading.{Passed}
use Rattle.comparison_parts.proofs.sets.spread.Given as goal

abbrev pub invariant-loop-i : goal.invariant-loop-i
invariant-loop-i l = (l.i ≤ length l.neighbours) × Passed l.neighbours l.marked l.reached l.i
