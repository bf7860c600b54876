-- `expanded_row` meets its contract: generator j: X at j and Z at the neighbours of j, sign plus, each place then sent
-- through its vertex's code.
use Rattle.clifford.specs.Vectors.{codes_of}
use Rattle.record.proofs.ExpandedRows.{sent-row}
use Rattle.record_impl.proofs.expansion.expanded_row.Goals as goal

pub returns : goal.returns
returns c codes W =
    let a = c.args in
    sent-row a.neighbours.now codes a.j c.single.ensures (c.act_on.ensures (codes_of codes) W)
