-- `has` meets its contract: bit q of w.
use mathlib.Core.Path.{ap}
use Prim.Native.Nat.{◌/◌, ◌^◌}
use lib.Bits.{and_mask}
use lib.Dec.{eqb}
use Rattle.words.specs.Bits.{bit}
use Rattle.words.proofs.has.Goals as goal

pub returns : goal.returns
unfolding bit
returns c = ap (λ k. eqb k 1) (and_mask (c.args.w / 2 ^ c.args.q) 1)
