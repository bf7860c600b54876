-- `largest` meets its contract: the largest set bit of a word that is not 0.
use Prim.Native.Nat.{◌<◌, ◌^◌}
use native.Mathlib.Omega.{arith}
use Rattle.words.proofs.TopBit.{top_bit}
use Rattle.words.proofs.largest.Goals as goal

fits : (c : goal.Start) → c.args.w < 2 ^ 64
fits c = omega (arith, c.ranges.w)

pub returns : goal.returns
returns c = top_bit c.args.w (fits c) c.requires
