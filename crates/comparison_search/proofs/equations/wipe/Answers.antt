-- `wipe` meets its contract: a table without equations, of one that has none from an end on.
use native.Mathlib.Omega.{arith}
use Rattle.comparison_search.proofs.RowsTested.{all-wiped}
use Rattle.comparison_search.proofs.equations.wipe.Goals as goal

pub returns : goal.returns
returns c =
    let l = c.loop-row in
    all-wiped c.args.table.now l.row-items c.args.end c.requires.1 l.invariant.long
    (λ k b. l.invariant.wiped k (omega (arith, b, l.invariant.long, c.loop-row-test.false))) c.requires.0
