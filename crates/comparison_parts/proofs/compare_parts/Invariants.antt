-- What the loops of `compare_parts` keep.
use Rattle.comparison.specs.internal.Equations.{EmptyFrom, equations_in}
use Rattle.comparison_parts.specs.internal.Components.{Progress, record_held}
use Rattle.comparison_parts.proofs.compare_parts.Given as goal

abbrev pub invariant-loop-rest : goal.invariant-loop-rest
invariant-loop-rest l =
    Progress l.n (record_held l.n l.neighbours l.codes) (record_held l.n l.neighbours2 l.codes2) l.rest l.choice
    × EmptyFrom 0 (equations_in l.table)

abbrev pub decreases-loop-rest : goal.decreases-loop-rest
decreases-loop-rest l = l.rest
