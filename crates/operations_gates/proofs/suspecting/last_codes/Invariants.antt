-- What the loops of `last_codes` keep.
use Prim.Native.Nat.{◌≤◌}
use Rattle.operations_gates.specs.internal.Bytes.{Packed}
use Rattle.operations_gates.proofs.suspecting.last_codes.Given as goal

abbrev pub invariant-loop-i : goal.invariant-loop-i
invariant-loop-i l = (l.from ≤ l.i) × Packed l.codes l.i 8 l.all
