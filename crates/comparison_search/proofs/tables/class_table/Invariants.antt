-- What the loops of `class_table` keep.
use Prim.Native.Nat.{◌≤◌}
use Rattle.comparison.specs.internal.Equations.{equations_in}
use Rattle.comparison.specs.internal.Searches.{ClassTable}
use Rattle.comparison.specs.internal.Setting.{generators_in}
use Rattle.comparison_search.proofs.tables.class_table.Given as goal

abbrev pub invariant-loop-i : goal.invariant-loop-i
invariant-loop-i l =
    (l.i ≤ l.n) × ClassTable l.n (generators_in l.first) (generators_in l.second) l.i 0
    (equations_in l.table)
