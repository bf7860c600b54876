-- `is_crossed` meets its contract: whether a code has C = D = 1.
use mathlib.Core.Bool.{◌&&◌}
use mathlib.Core.Path.{ap₂}
use Rattle.operations_gates.proofs.unsettled.is_crossed.Goals as goal

pub returns : goal.returns
returns c = ap₂ ◌&&◌ c.c_bit.ensures c.d_bit.ensures
