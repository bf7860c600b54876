-- `turned` meets its contract: the transpose of eight rows of eight bits.
use Rattle.operations_gates.proofs.TurnedRows.{turned_bit, turned-short}
use Rattle.operations_gates.proofs.suspecting.turned.Goals as goal

pub returns : goal.returns
returns c = record { upper_bound = turned-short c.args.rows c.ranges.rows.fits; by_index = turned_bit c.args.rows }
