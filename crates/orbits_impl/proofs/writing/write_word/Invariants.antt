-- What the loops of `write_word` keep.
use Rattle.orbits_impl.proofs.WrittenNumbers.{Emitting}
use Rattle.orbits_impl.proofs.writing.write_word.Given as goal

abbrev pub invariant-loop-rest : goal.invariant-loop-rest
invariant-loop-rest l = Emitting l.word l.base l.at l.initial.list l.list l.rest l.end

abbrev pub decreases-loop-rest : goal.decreases-loop-rest
decreases-loop-rest l = l.rest
