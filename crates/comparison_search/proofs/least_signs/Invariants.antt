-- What the loops of `least_signs` keep.
use mathlib.Core.Path.{◌≡◌}
use Rattle.clifford.specs.Vectors.{codes_of}
use Rattle.comparison.specs.internal.Equations.{assignment_of, equations_in, sign_assignment}
use Rattle.comparison.specs.internal.Searches.{SignsChosen}
use Rattle.comparison_search.proofs.least_signs.Given as goal

abbrev pub invariant-loop-q : goal.invariant-loop-q
invariant-loop-q l = SignsChosen l.n (equations_in l.table) l.initial.choice l.q l.choice × (assignment_of l.held ≡ sign_assignment l.n (codes_of l.choice))
