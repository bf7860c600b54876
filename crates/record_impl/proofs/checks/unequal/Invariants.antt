-- What the loops of `unequal` keep.
use Prim.Native.Nat.{ℕ}
use Rattle.words.specs.Bits.{bit}
use Rattle.record_impl.proofs.Squares.{SomeTo, differ_at}
use Rattle.record_impl.proofs.checks.unequal.Given as goal

abbrev pub invariant-loop-i : goal.invariant-loop-i
invariant-loop-i l = (c : ℕ) → SomeTo l.i l.n (differ_at l.words l.rows c) (bit l.all c)
