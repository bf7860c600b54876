-- `by_bit` meets its contract: the word `by` where w has bit i, else 0.
use mathlib.Core.Bool.{cond}
use mathlib.Core.Path.{ap, ◌∙◌, ◌≡◌}
use Prim.Native.Nat.{◌%◌, ◌*◌, ◌/◌, ◌<◌, ◌^◌, ℕ}
use native.Mathlib.Nat.{mod-eq_of_lt}
use lib.Bits.{and_comm, and_mask, and_zero_l, bit_and}
use lib.Dec.{eqb}
use Rattle.words.proofs.BitLaws.{low_digit}
use Rattle.words.specs.Bits.{bit}
use Rattle.stabilizer_impl.proofs.independence.by_bit.Goals as goal

-- all bits or none
mask-of : (v by : ℕ) → by < 2 ^ 64
    → bit_and (bit_and v 1 * 18446744073709551615) by ≡ cond (eqb (v % 2) 1) by 0
mask-of v by h = ap (λ u. bit_and (u * 18446744073709551615) by) (and_mask v 1)
    ∙ low_digit (λ u. bit_and (u * 18446744073709551615) by ≡ cond (eqb u 1) by 0) (and_zero_l by)
    (and_comm 18446744073709551615 by ∙ and_mask by 64 ∙ mod-eq_of_lt h) v

pub returns : goal.returns
unfolding bit
returns c = mask-of (c.args.w / 2 ^ c.args.i) c.args.by c.ranges.by.fits
