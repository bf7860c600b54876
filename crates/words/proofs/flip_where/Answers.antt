-- `flip_where` meets its contract: w with bit q flipped where b is true.
use mathlib.Core.Bool.{cond}
use mathlib.Core.Path.{◌∙◌, ap, sym}
use Prim.Native.Nat.{◌^◌}
use lib.Bits.{bit_xor}
use Rattle.words.proofs.Places.{bit-flip-where}
use Rattle.words.proofs.flip_where.Goals as goal

pub returns-then-b : goal.returns-then-b
returns-then-b c =
    let a = c.args in
    bit-flip-where a.w a.q a.b _ (c.flip.ensures
    ∙ ap (λ b. cond b (bit_xor a.w (2 ^ a.q)) a.w) (sym c.if-b.true))
