-- `columns_at` meets its contract: what the columns from a place on say.
use mathlib.Core.Path.{◌∙◌, ap}
use Rattle.text.specs.RecordTexts.{decimal_value}
use Rattle.text_records.proofs.Columns.{one-digit, two_digits}
use Rattle.text_records.proofs.lines.columns_at.Goals as goal

pub returns-then-second-eq32 : goal.returns-then-second-eq32
returns-then-second-eq32 c =
    let a = c.args in
    one-digit a.text.now a.from (c.decimal_value-first.ensures ∙ ap decimal_value c.byte_at.ensures)
    c.byte_at-second.ensures c.if-second-eq32.true c.word_at.ensures c.byte_at-then-second-eq32.ensures

pub returns : goal.returns
returns c =
    let a = c.args in
    two_digits a.text.now a.from (c.decimal_value-first.ensures ∙ ap decimal_value c.byte_at.ensures)
    c.byte_at-second.ensures c.if-second-eq32.false c.decimal_value.ensures c.word_at-2.ensures c.byte_at-2.ensures
