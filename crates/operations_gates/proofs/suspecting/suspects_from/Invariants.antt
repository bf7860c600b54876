-- What the loops of `suspects_from` keep.
use Prim.Native.Nat.{◌≤◌}
use lib.ListN.{get_or, length}
use Rattle.record_reduction.proofs.Pivoting.{NamedFrom}
use Rattle.operations_gates.specs.internal.Suspects.{suspect}
use Rattle.operations_gates.proofs.suspecting.suspects_from.Given as goal

abbrev pub invariant-loop-i : goal.invariant-loop-i
invariant-loop-i l = (l.from ≤ l.i) × NamedFrom (length l.codes) (λ q. suspect (get_or l.codes q 0)) l.all l.i
