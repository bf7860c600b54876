-- `unequal` meets its contract: the columns at which one of the first n words differs from its row.
use Rattle.record_impl.proofs.Squares.{differ-none, differ-one}
use Rattle.record_impl.proofs.checks.unequal.Goals as goal

pub loop-i-init : goal.loop-i-init
loop-i-init c = differ-none _ c.args.words.now c.args.rows.now

pub loop-i-preserved : goal.loop-i-preserved
loop-i-preserved c =
    let a = c.args in
    differ-one c.loop-i.i a.n a.words.now a.rows.now c.loop-i.all
    c.loop-i-test.true c.loop-i.invariant
