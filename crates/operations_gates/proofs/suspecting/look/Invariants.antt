-- What the loops of `look` keep.
use Prim.Native.Nat.{◌*◌, ◌≤◌}
use lib.ListN.{length}
use Rattle.operations_gates.proofs.LookedAt.{Below, Rows}
use Rattle.operations_gates.proofs.suspecting.look.Given as goal

abbrev pub invariant-loop-e : goal.invariant-loop-e
invariant-loop-e l = (8 * l.e ≤ length l.codes) × Below l.codes (8 * l.e) l.high × Rows l.codes (8 * l.e) l.rows
