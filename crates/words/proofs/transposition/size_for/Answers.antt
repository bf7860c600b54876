-- `size_for` meets its contract: the next size that has its rounds.
use native.Mathlib.Omega.{arith}
use Rattle.words.specs.internal.Squares.{eight, full, half, sixteen}
use Rattle.words.proofs.transposition.size_for.Goals as goal

pub returns-then-n-gt32 : goal.returns-then-n-gt32
returns-then-n-gt32 c = (omega arith, full)

pub returns-then-n-gt16 : goal.returns-then-n-gt16
returns-then-n-gt16 c = (omega arith, half)

pub returns-then-n-gt8 : goal.returns-then-n-gt8
returns-then-n-gt8 c = (omega arith, sixteen)

pub returns-else-n-gt8 : goal.returns-else-n-gt8
returns-else-n-gt8 c = (omega arith, eight)
