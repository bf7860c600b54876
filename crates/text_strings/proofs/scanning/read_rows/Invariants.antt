-- What the loops of `read_rows` keep.
use Rattle.text_strings.proofs.ListLoops.{RowsRead}
use Rattle.text_strings.proofs.scanning.read_rows.Given as goal

abbrev pub invariant-loop-j : goal.invariant-loop-j
invariant-loop-j l = RowsRead l.text l.n l.signs l.z l.x l.from l.j
