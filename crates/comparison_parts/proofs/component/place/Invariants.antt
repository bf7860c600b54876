-- What the loops of `place` keep.
use Prim.Native.Nat.{◌≤◌}
use lib.ListN.{length}
use Rattle.comparison_parts.proofs.Placing.{Placing}
use Rattle.comparison_parts.proofs.component.place.Given as goal

abbrev pub invariant-loop-i : goal.invariant-loop-i
invariant-loop-i l = (l.i ≤ length l.at) × Placing l.at l.chosen l.initial.choice l.choice l.i
