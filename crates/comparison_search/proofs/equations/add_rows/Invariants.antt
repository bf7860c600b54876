-- What the loops of `add_rows` keep.
use Prim.Native.Nat.{◌<◌, ◌^◌}
use Rattle.comparison.specs.internal.Equations.{equation_of, equations_in}
use Rattle.comparison_search.specs.internal.Rewriting.{Summed}
use Rattle.comparison_search.proofs.equations.add_rows.Given as goal

abbrev pub invariant-loop-rest : goal.invariant-loop-rest
invariant-loop-rest l = (l.l < 4) × (l.rest < 2 ^ 64) × Summed (equations_in l.table) (equation_of l.initial.left) (equation_of l.left)

abbrev pub decreases-loop-rest : goal.decreases-loop-rest
decreases-loop-rest l = l.rest
