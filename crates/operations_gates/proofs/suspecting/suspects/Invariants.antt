-- What the loops of `suspects` keep.
use Prim.Native.Nat.{◌*◌, ◌≤◌}
use lib.ListN.{get_or, length}
use Rattle.record_reduction.proofs.Pivoting.{NamedFrom}
use Rattle.operations_gates.specs.internal.Suspects.{suspect}
use Rattle.operations_gates.proofs.suspecting.suspects.Given as goal

abbrev pub invariant-loop-e : goal.invariant-loop-e
invariant-loop-e l = (8 * l.e ≤ length l.codes) × NamedFrom (length l.codes) (λ q. suspect (get_or l.codes q 0)) l.all (8 * l.e)
