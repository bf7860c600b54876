-- `line_fits` meets its contract: whether a line of n letters starts at a place.
use Rattle.text_strings.proofs.FitLoops.{line-tested}
use Rattle.text_strings.proofs.form.line_fits.Goals as goal

pub returns : goal.returns
returns c =
    let a = c.args in
    line-tested a.text.now a.from a.n c.is_sign.ensures c.letters_fit.ensures
