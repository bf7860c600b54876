-- `suspicious` meets its contract: 1 for a code that is odd, or 8 or more.
use Rattle.operations_gates.proofs.CodeBits.{by_mask}
use Rattle.operations_gates.proofs.suspecting.suspicious.Goals as goal

pub returns : goal.returns
returns c = by_mask c.args.code c.requires
