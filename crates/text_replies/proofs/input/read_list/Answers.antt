-- `read_list` meets its contract: reads the input to its end, block after block; the first 64 lines of the list go to the
-- buffers.
use borrow.Author.Rules.{rules}
use mathlib.Core.Path.{refl}
use Rattle.text_replies.proofs.Blocks.{no_block, one_block, scanned}
use Rattle.text_replies.proofs.input.read_list.Goals as goal

pub loop-init : goal.loop-init
loop-init g c = (refl, no_block _ _ _ _ c.start-scan.ensures)

pub loop-preserved : goal.loop-preserved
loop-preserved g c =
    (search rules, one_block _ _ _ _ _ _ _ _ _ c.loop.scan _ _ c.loop.invariant.1 c.scan_block-scan.ensures)

pub returns-then-got-eq0 : goal.returns-then-got-eq0
returns-then-got-eq0 g c =
    record { ok = scanned _ _ _ _ _ _ c.loop.scan _ c.loop.invariant.1 c.finish.ensures; err = tt }

pub returns : goal.returns
returns g c =
    record { ok = scanned _ _ _ _ _ _ c.loop.scan _ c.loop.invariant.1 c.finish-2.ensures; err = tt }
