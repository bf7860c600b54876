-- `letter_count` meets its contract: a text that has the form has as many lines as its first line has letters.
use native.Mathlib.Omega.{arith}
use Rattle.text_strings.proofs.FitLoops.{first-line, newline-missing, none_yet}
use Rattle.text_strings.proofs.form.letter_count.Goals as goal

pub returns-in-empty : goal.returns-in-empty
returns-in-empty c form =
    let t = c.args.text.now in newline-missing t (none_yet t) form (omega (arith, c.in-empty.len_below))

pub returns-in-len1-up : goal.returns-in-len1-up
returns-in-len1-up c =
    let B = c.before_newline.ensures in
    first-line c.args.text.now c.in-len1-up.len_at_least _ B.within B.before B.found
