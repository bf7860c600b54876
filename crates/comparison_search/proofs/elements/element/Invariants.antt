-- What the loops of `element` keep.
use Rattle.words.specs.Bits.{bit}
use Rattle.pauli.specs.internal.Rows.{generator_of}
use Rattle.comparison.specs.internal.Setting.{generators_in, generators_of}
use Rattle.stabilizer.proofs.Multiplying.{Multiplied}
use Rattle.comparison_search.proofs.elements.element.Given as goal

abbrev pub invariant-loop-j : goal.invariant-loop-j
invariant-loop-j l = Multiplied l.n (generators_of (generators_in l.second)) (bit l.w) l.j (generator_of l.h)
