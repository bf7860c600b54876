-- `eight_codes` meets its contract: eight codes in a word, the first lowest.
use native.Mathlib.Omega.{arith}
use Rattle.operations_gates.proofs.PackedBytes.{packed-both}
use Rattle.operations_gates.proofs.suspecting.eight_codes.Goals as goal

pub returns : goal.returns
returns c = packed-both _ _ 4 _ _ (omega arith) c.four_codes.ensures c.four_codes-2.ensures
