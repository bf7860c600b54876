-- `word_at` meets its contract: the word of 16 digits from a place on.
use mathlib.Core.Path.{◌∙◌, ap, ap₂, refl}
use Prim.Native.Nat.{◌%◌}
use Rattle.text.specs.RecordTexts.{hex_of}
use Rattle.text.specs.Text.{hex_value}
use Rattle.text.specs.internal.Scan.{push}
use Rattle.text_records.proofs.Words.{word_more}
use Rattle.text_records.proofs.lines.word_at.Goals as goal

pub loop-k-init : goal.loop-k-init
unfolding hex_of
loop-k-init c = refl

pub loop-k-preserved : goal.loop-k-preserved
loop-k-preserved c =
    c.pushed-w.ensures
    ∙ ap₂ push c.loop-k.invariant (c.digit_of.ensures ∙ ap (λ b. hex_value b % 16) c.byte_at.ensures)
    ∙ word_more _ c.loop-k.k c.loop-k-test.true
