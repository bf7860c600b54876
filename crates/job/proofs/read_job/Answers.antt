-- `read_job` meets its contract: reads the input to its end, block after block, and keeps the steps together.
use borrow.Author.Rules.{rules}
use mathlib.Core.Path.{refl}
use Rattle.job.proofs.Blocks.{no_block, one_block}
use Rattle.job.proofs.read_job.Goals as goal

pub loop-init : goal.loop-init
loop-init g c = (refl, no_block _ c.unread-read.ensures)

pub loop-preserved : goal.loop-preserved
loop-preserved g c = (search rules, one_block _ _ _ c.loop.invariant.1 c.read_block-next.ensures)

pub returns-then-got-eq0 : goal.returns-then-got-eq0
returns-then-got-eq0 g c = c.loop.invariant.1

pub returns : goal.returns
returns g c = c.loop.invariant.1
