-- `with_hadamard` meets its contract: the code with a Hadamard before it, and a sign t for the image of X.
use native.Mathlib.Omega.{arith}
use Rattle.words.proofs.BitLaws.{digit_lt}
use Rattle.operations_measurement.proofs.IsolatedBuffers.{hadamard-by-calls}
use Rattle.operations_measurement.proofs.isolation.with_hadamard.Goals as goal

pub overflow_mul-sign_digit : goal.overflow_mul-sign_digit
overflow_mul-sign_digit c = omega (arith, c.sign_digit.ensures, digit_lt c.args.t)

pub overflow_add-sign_digit : goal.overflow_add-sign_digit
overflow_add-sign_digit c = omega (arith, c.sign_digit.ensures, digit_lt c.args.t)

pub compose-requires : goal.compose-requires
compose-requires c = (omega (arith, c.sign_digit.ensures, digit_lt c.args.t), c.requires)

pub returns : goal.returns
returns c =
    let a = c.args in
    hadamard-by-calls a.t a.code c.sign_digit.ensures c.compose.ensures.0
