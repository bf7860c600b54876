-- What the loops of `change` keep.
use Rattle.parity.proofs.ChangedLists.{ChangedBelow}
use Rattle.parity.specs.internal.Lists.{list_in}
use Rattle.parity_impl.proofs.generators.change.Given as goal

-- the first j rows are changed
abbrev pub invariant-loop-j : goal.invariant-loop-j
invariant-loop-j l = ChangedBelow l.z l.x l.g (list_in l.initial.signs l.initial.zs l.initial.xs) l.signs l.zs l.xs l.j
