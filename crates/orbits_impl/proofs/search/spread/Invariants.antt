-- What the loops of `spread` keep.
use Prim.Native.Nat.{◌-◌}
use Rattle.orbits_impl.proofs.Following.{Following}
use Rattle.orbits_impl.proofs.search.spread.Given as goal

abbrev pub invariant-loop-head : goal.invariant-loop-head
invariant-loop-head l = Following l.n l.g l.initial.list l.initial.tail l.marks l.list l.tail l.head

abbrev pub decreases-loop-head : goal.decreases-loop-head
decreases-loop-head l = 32768 - l.head
