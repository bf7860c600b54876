-- What the loops of `least_classes` keep.
use mathlib.Core.Path.{◌≡◌}
use Rattle.clifford.specs.Vectors.{codes_of}
use Rattle.comparison.specs.internal.Equations.{assignment_of, class_assignment, equations_in}
use Rattle.comparison.specs.internal.Searches.{ClassesChosen}
use Rattle.comparison_search.proofs.least_classes.Given as goal

abbrev pub invariant-loop-q : goal.invariant-loop-q
invariant-loop-q l = ClassesChosen l.n (equations_in l.table) l.q l.choice × (assignment_of l.held ≡ class_assignment l.n (codes_of l.choice))
