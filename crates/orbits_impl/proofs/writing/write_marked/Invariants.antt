-- What the loops of `write_marked` keep.
use Rattle.orbits_impl.proofs.WrittenNumbers.{Written}
use Rattle.orbits_impl.proofs.writing.write_marked.Given as goal

abbrev pub invariant-loop-w : goal.invariant-loop-w
invariant-loop-w l = Written l.marks l.initial.list l.list l.w l.end
