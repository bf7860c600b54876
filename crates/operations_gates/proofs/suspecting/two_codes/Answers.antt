-- `two_codes` meets its contract: two codes in a word, the first lowest.
use native.Mathlib.Omega.{arith}
use Rattle.operations_gates.proofs.PackedBytes.{packed-both, packed-one}
use Rattle.operations_gates.proofs.suspecting.two_codes.Goals as goal

pub returns : goal.returns
returns c =
    let one = c.byte.ensures in
    let two = c.byte-2.ensures in
    packed-both _ _ 1 _ _ (omega arith) (packed-one _ _ _ one.0 one.1) (packed-one _ _ _ two.0 two.1)
