-- What the loops of `sign_words` keep.
use Rattle.comparison.proofs.PlacedFours.{SignsIn}
use Rattle.comparison_search.proofs.assignments.sign_words.Given as goal

abbrev pub invariant-loop-q : goal.invariant-loop-q
invariant-loop-q l = SignsIn l.n l.choice l.q l.words
