-- `marked_bytes` meets its contract: a bit for each byte, whether its bit 0, 3 or 4 is set.
use native.Mathlib.Omega.{arith}
use Rattle.operations_gates.proofs.MarkedBytes.{laid-short, marked-bytes}
use Rattle.operations_gates.proofs.suspecting.marked_bytes.Goals as goal

pub overflow_mul-result : goal.overflow_mul-result
overflow_mul-result c = omega (arith, laid-short c.args.x)

pub returns : goal.returns
returns c = marked-bytes c.args.x
