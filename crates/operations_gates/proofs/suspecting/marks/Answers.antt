-- `marks` meets its contract: the lowest bit of each byte of which bit 0, 3 or 4 is set.
use Rattle.operations_gates.proofs.ByteBits.{marks}
use Rattle.operations_gates.proofs.suspecting.marks.Goals as goal

pub returns : goal.returns
returns c = marks c.args.x
