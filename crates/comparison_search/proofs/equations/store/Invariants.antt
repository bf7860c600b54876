-- What the loops of `store` keep.
use Prim.Native.Nat.{◌≤◌}
use Rattle.comparison.specs.internal.Equations.{Bound, equation_of, equations_in}
use Rattle.comparison.proofs.Insertion.{Inserting}
use Rattle.comparison_search.proofs.equations.store.Given as goal

abbrev pub invariant-loop-i : goal.invariant-loop-i
invariant-loop-i l =
    (l.i ≤ 256) × Bound (equation_of l.left) l.i
    × Inserting (equations_in l.initial.table) (equation_of l.initial.left) (equations_in l.table) (equation_of l.left) l.i

abbrev pub decreases-loop-i : goal.decreases-loop-i
decreases-loop-i l = l.i
