-- What the loops of `entries` keep.
use Prim.Native.Nat.{◌+◌}
use lib.ListN.{get_or}
use Rattle.buffers.proofs.Filling.{Filled}
use Rattle.clifford_impl.proofs.compositions.entries.Given as goal

abbrev pub invariant-loop-b : goal.invariant-loop-b
invariant-loop-b l = Filled 24 (λ j. get_or l.table (l.start + j) 0) l.row l.b
