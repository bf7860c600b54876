-- `sum_phase` meets its contract: three powers of i multiplied, from 0 to 3.
use native.Mathlib.Nat.{mod-lt}
use lib.Dec.{lit<}
use Rattle.pauli.proofs.WordRows.{power-sum}
use Rattle.pauli.proofs.sum_phase.Goals as goal

pub returns : goal.returns
returns c = (power-sum c.args.a c.args.b c.args.c, mod-lt _ (lit< tt))
