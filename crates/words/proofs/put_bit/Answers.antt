-- `put_bit` meets its contract: w with bit q set to b.
use mathlib.Core.Path.{refl, sym, ◌∙◌, ◌≡◌}
use mathlib.Core.Bool.{Bool, beq, false, not, true, true≢false}
use Rattle.words.proofs.Flags.{beq-true}
use Rattle.words.proofs.Places.{bit-put-flipped, bit-put-kept}
use Rattle.words.proofs.put_bit.Goals as goal

turned : (a b : Bool) → beq a b ≡ false → b ≡ not a
turned false false e = absurd (true≢false e)
turned false true e = refl
turned true false e = refl
turned true true e = absurd (true≢false e)

pub returns-then-has-b : goal.returns-then-has-b
returns-then-has-b c = bit-put-kept c.args.w c.args.q c.args.b
    (sym c.has.ensures ∙ beq-true c.has.result c.args.b c.if-has-b.true)

pub returns-else-has-b : goal.returns-else-has-b
returns-else-has-b c = bit-put-flipped c.args.w c.args.q c.args.b _ c.flip.ensures (sym c.has.ensures)
    (turned c.has.result c.args.b c.if-has-b.false)
