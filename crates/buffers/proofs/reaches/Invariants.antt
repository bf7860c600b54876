-- What the loops of `reaches` keep.

use Rattle.buffers.proofs.Reaching.{SomeBelow}
use Rattle.buffers.proofs.reaches.Given as goal

abbrev pub invariant-loop-value : goal.invariant-loop-value
invariant-loop-value l = SomeBelow l.b l.buffer l.found l.value-index
