-- What the loops of `compress` keep.
use Prim.Native.Nat.{◌≤◌}
use lib.ListN.{length}
use Rattle.comparison_parts.proofs.Listing.{Compressed}
use Rattle.comparison_parts.proofs.part_records.compress.Given as goal

abbrev pub invariant-loop-i : goal.invariant-loop-i
invariant-loop-i l = (l.i ≤ length l.at) × Compressed l.at l.w l.bits l.i
