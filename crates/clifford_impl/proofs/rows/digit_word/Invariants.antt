-- What the loops of `digit_word` keep.
use Rattle.clifford_impl.proofs.RowDigits.{DigitsFrom}
use Rattle.clifford_impl.proofs.rows.digit_word.Given as goal

abbrev pub invariant-loop-q : goal.invariant-loop-q
invariant-loop-q l = DigitsFrom l.codes l.k l.word l.q
