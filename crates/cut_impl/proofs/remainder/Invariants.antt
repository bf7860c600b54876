-- What the loops of `remainder` keep.
use Prim.Native.Nat.{◌-◌}
use lib.Count.{count_trailing_zeros}
use Rattle.cut_impl.proofs.Remainders.{Reducing}
use Rattle.cut_impl.proofs.remainder.Given as goal

abbrev pub invariant-loop-rest : goal.invariant-loop-rest
invariant-loop-rest l = Reducing l.basis l.w l.rest

abbrev pub decreases-loop-rest : goal.decreases-loop-rest
decreases-loop-rest l = 64 - count_trailing_zeros 64 l.rest
