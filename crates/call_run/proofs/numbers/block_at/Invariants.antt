-- What the loop of `block_at` keeps.
use Rattle.call_run.proofs.Blocks.{BlockFilled}
use Rattle.call_run.proofs.numbers.block_at.Given as goal

abbrev pub invariant-loop-k : goal.invariant-loop-k
invariant-loop-k l = BlockFilled l.ops l.a l.b l.value l.from l.steps l.k
