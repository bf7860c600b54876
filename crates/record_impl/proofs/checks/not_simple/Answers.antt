-- `not_simple` meets its contract: line 7: the graph is not simple.
use Rattle.record_impl.proofs.Squares.{square-verdict, turned-back}
use Rattle.record_impl.proofs.checks.not_simple.Goals as goal

pub returns : goal.returns
returns c =
    let a = c.args in
    square-verdict a.n a.neighbours.now c.transpose.new.rows _ _ _
    (turned-back a.n a.neighbours.now c.square_of-own.new.rows c.transpose.new.rows
    c.square_of-own.ensures.copied c.transpose.ensures.turned)
    c.square_of-own.ensures.by_index c.unequal.ensures c.mask.ensures
