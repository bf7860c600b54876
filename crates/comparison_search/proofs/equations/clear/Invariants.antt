-- What the loops of `clear` keep.
use Prim.Native.Nat.{◌<◌, ◌≤◌}
use Rattle.comparison.specs.internal.Equations.{equation_of, equations_in}
use Rattle.comparison_search.proofs.EquationsRows.{Clearing}
use Rattle.comparison_search.proofs.equations.clear.Given as goal

abbrev pub invariant-loop-k : goal.invariant-loop-k
invariant-loop-k l = (l.i < 256) × (l.end ≤ 256) × Clearing (equations_in l.initial.table) (equations_in l.table) l.i l.k (equation_of l.p)
