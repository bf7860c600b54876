-- `high_bits` meets its contract: one of the bits 5, 6 and 7 of each byte that is 24 or more.
use Rattle.operations_gates.proofs.ByteBits.{high_bits}
use Rattle.operations_gates.proofs.suspecting.high_bits.Goals as goal

pub returns : goal.returns
returns c = high_bits c.args.x
