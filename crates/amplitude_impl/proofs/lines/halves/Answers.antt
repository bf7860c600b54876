-- `halves` meets its contract.
use Rattle.amplitude_impl.proofs.HalfPowers.{pattern-good, pattern-is}
use Rattle.amplitude_impl.proofs.lines.halves.Goals as goal

pub float_from_bits-result : goal.float_from_bits-result
float_from_bits-result c = pattern-good c.args.r c.requires

pub returns : goal.returns
returns c = pattern-is c.args.r c.requires
