-- What the loops of `put_strings` keep.
use Rattle.stabilizer.specs.Lists.{rows}
use Rattle.text_strings.proofs.PrintLoops.{LinesPut}
use Rattle.text_strings.proofs.printing.put_strings.Given as goal

abbrev pub invariant-loop-j : goal.invariant-loop-j
invariant-loop-j l = LinesPut l.n (rows (record { n = l.n; signs = l.signs; z = l.z; x = l.x })) l.initial.out l.out l.at l.j
