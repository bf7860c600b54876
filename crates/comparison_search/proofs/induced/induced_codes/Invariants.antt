-- What the loops of `induced_codes` keep.
use lib.ListN.{length}
use Rattle.buffers.proofs.Filling.{Filled}
use Rattle.comparison.specs.internal.Compared.{induced_code}
use Rattle.comparison_search.proofs.induced.induced_codes.Given as goal

abbrev pub invariant-loop-q : goal.invariant-loop-q
invariant-loop-q l = Filled (length l.initial.induced) (induced_code l.first l.choice l.second) l.induced l.q
