-- What the loops of `strays` keep.
use Prim.Native.Nat.{◌^◌}
use lib.Dec.{leb}
use Rattle.buffers.proofs.Reaching.{SomeBelow}
use Rattle.buffers.proofs.strays.Given as goal

abbrev pub invariant-loop-word : goal.invariant-loop-word
invariant-loop-word l = SomeBelow (2 ^ l.n) l.buffer (leb (2 ^ l.n) l.all) l.word-index
