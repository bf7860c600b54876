-- `undoing` meets its contract: the action that undoes another.
use Rattle.clifford_impl.proofs.Inverses.{undone-acts}
use Rattle.clifford_impl.proofs.rows.undoing.Goals as goal

pub returns : goal.returns
returns c k W =
    undone-acts k c.args.by W _ _ _ (c.negative.ensures k W)
    (c.negative-2.ensures k W) (c.negative-3.ensures k W)
