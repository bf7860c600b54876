-- `four_codes` meets its contract: four codes in a word, the first lowest.
use native.Mathlib.Omega.{arith}
use Rattle.operations_gates.proofs.PackedBytes.{packed-both}
use Rattle.operations_gates.proofs.suspecting.four_codes.Goals as goal

pub returns : goal.returns
returns c = packed-both _ _ 2 _ _ (omega arith) c.two_codes.ensures c.two_codes-2.ensures
