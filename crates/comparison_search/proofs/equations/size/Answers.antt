-- `size` meets its contract: the number of bits of a word.
use Prim.Native.Nat.{◌<◌, ◌^◌}
use native.Mathlib.Omega.{arith}
use lib.Count.{leading_le}
use Rattle.comparison_search.proofs.WordSizes.{size_is}
use Rattle.comparison_search.proofs.equations.size.Lts as lts
use Rattle.comparison_search.proofs.equations.size.Reads as reads
use Rattle.comparison_search.proofs.equations.size.Goals as goal

-- where the lemmas below stand
abbrev Start : Type 0
Start = lts.Start reads.Pre reads.Post

fits : (c : Start) → c.args.w < 2 ^ 64
fits c = omega (arith, c.ranges.w)

pub overflow_cast-result : goal.overflow_cast-result
overflow_cast-result c = omega (arith, leading_le 64 c.args.w)

pub overflow_sub-result : goal.overflow_sub-result
overflow_sub-result c = omega (arith, leading_le 64 c.args.w)

pub returns : goal.returns
returns c = (omega arith, size_is c.args.w (fits c))
