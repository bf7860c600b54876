-- What the loops of `class_words` keep.
use Rattle.comparison.proofs.PlacedFours.{ClassesIn}
use Rattle.comparison_search.proofs.assignments.class_words.Given as goal

abbrev pub invariant-loop-q : goal.invariant-loop-q
invariant-loop-q l = ClassesIn l.n l.choice l.q l.words
