-- What the loop of `copy_front` keeps: the first places are copied.
use Rattle.std.proofs.Common.{◌≡◌, ◌++◌, drop, take}
use Rattle.buffers.proofs.copying.copy_front.Given as goal

abbrev pub invariant-loop-i : goal.invariant-loop-i
invariant-loop-i g l = l.to ≡ take l.i l.from ++ drop l.i l.initial.to
