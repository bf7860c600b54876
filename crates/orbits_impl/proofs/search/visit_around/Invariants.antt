-- What the loops of `visit_around` keep.
use Rattle.orbits_impl.specs.internal.Marks.{Around, Visited}
use Rattle.orbits_impl.proofs.search.visit_around.Given as goal

abbrev pub invariant-loop-around : goal.invariant-loop-around
invariant-loop-around l = Visited (Around l.n l.g l.around-index) l.initial.marks l.initial.list l.tail l.marks l.list l.end
