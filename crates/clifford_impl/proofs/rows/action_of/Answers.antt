-- `action_of` meets its contract: the action of these codes, from the digits of the codes.
use Rattle.clifford_impl.proofs.ByDigits.{acts-by-digits}
use Rattle.clifford_impl.proofs.rows.action_of.Goals as goal

pub returns : goal.returns
returns c =
    let low = c.before.before.before in
    let s = low.before.before.before.before in
    acts-by-digits s.args.codes.now s.requires.1 _ _ _ _ _ low.digit_word-sz.ensures
    low.digit_word-sx.ensures low.digit_word-low.ensures c.digit_word-middle.ensures
    c.digit_word-high.ensures
