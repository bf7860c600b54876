-- What the loops of `string_row` keep.
use Rattle.text_strings.proofs.RowLoops.{Halves}
use Rattle.text_strings.proofs.scanning.string_row.Given as goal

abbrev pub invariant-loop-q : goal.invariant-loop-q
invariant-loop-q l = Halves l.text l.from l.n l.low l.high l.q
