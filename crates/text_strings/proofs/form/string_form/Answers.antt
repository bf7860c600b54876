-- `string_form` meets its contract: whether a text with n newlines has the form.
use mathlib.Core.Path.{sym, ◌∙◌}
use borrow.Author.Tests.{eqb-true}
use Rattle.text_strings.proofs.FitLoops.{lines-decide, size-decides}
use Rattle.text_strings.proofs.form.string_form.Goals as goal

pub lines_fit-requires : goal.lines_fit-requires
lines_fit-requires c = eqb-true _ _ (sym c.has_size.ensures ∙ c.if-has_size.true)

pub returns-then-has_size : goal.returns-then-has_size
returns-then-has_size c =
    lines-decide c.args.text.now c.args.n c.requires (sym c.has_size.ensures ∙ c.if-has_size.true)
    c.lines_fit.ensures

pub returns-else-has_size : goal.returns-else-has_size
returns-else-has_size c =
    c.if-has_size.false
    ∙ size-decides c.args.text.now c.args.n c.requires (sym c.has_size.ensures ∙ c.if-has_size.false)
