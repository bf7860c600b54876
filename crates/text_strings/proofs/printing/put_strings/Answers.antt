-- `put_strings` meets its contract: the text of a list fills the buffer.
use Rattle.text_strings.proofs.PrintLoops.{all_lines, line-room, no_lines, one_line}
use Rattle.text_strings.proofs.printing.put_strings.Goals as goal

pub loop-j-init : goal.loop-j-init
loop-j-init c = no_lines _ _ _ c.requires.out_len

pub put_string-at-requires : goal.put_string-at-requires
put_string-at-requires c = (
  c.requires.n_bound.0,
  line-room _ _ _ c.requires.out_len _ _ _ c.loop-j.invariant c.loop-j-test.true,
)

pub loop-j-preserved : goal.loop-j-preserved
loop-j-preserved c =
    one_line _ _ _ c.requires.out_len _ _ _ c.loop-j.invariant c.loop-j-test.true c.put_string-at.ensures
    c.put_string-at.auto.out

pub returns : goal.returns
returns c =
    all_lines _ _ _ c.requires.out_len c.loop-j.invariant c.loop-j-test.false
