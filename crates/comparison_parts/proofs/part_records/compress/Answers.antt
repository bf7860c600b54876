-- `compress` meets its contract: the bits of a word at the numbered vertices.
use Prim.Native.Nat.{zero-le}
use native.Mathlib.Omega.{arith}
use lib.ListN.{length}
use Rattle.comparison_parts.proofs.Listing.{compressed-all, compressed-more, compressed-none}
use Rattle.comparison_parts.proofs.part_records.compress.Goals as goal

pub loop-i-init : goal.loop-i-init
loop-i-init c = (zero-le, compressed-none c.args.at.now c.args.w)

pub loop-i-preserved : goal.loop-i-preserved
loop-i-preserved c = (
  omega arith,
  compressed-more c.args.at.now c.args.w c.loop-i.bits c.loop-i.i _ _
      c.loop-i.invariant.1 c.has.ensures c.flip_where-bits.ensures,
)

pub returns : goal.returns
returns c =
    compressed-all c.args.at.now c.args.w (length c.args.at.now) c.loop-i.bits c.loop-i.i
    c.loop-i.invariant.0 c.loop-i-test.false c.loop-i.invariant.1
