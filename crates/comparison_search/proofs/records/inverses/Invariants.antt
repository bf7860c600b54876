-- What the loops of `inverses` keep.
use Rattle.buffers.proofs.Filling.{Filled}
use Rattle.clifford.specs.Clifford.{code_of, inverse}
use Rattle.clifford.specs.Vectors.{codes_of}
use Rattle.comparison.specs.internal.Setting.{Codes}
use Rattle.comparison_search.proofs.records.inverses.Given as goal

abbrev pub invariant-loop-q : goal.invariant-loop-q
invariant-loop-q l = Codes l.all × Filled 64 (λ i. code_of (inverse (codes_of l.codes i))) l.all l.q
