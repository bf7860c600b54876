-- What the loops of `graph_element` keep.
use Prim.Native.Nat.{◌-◌}
use lib.ListN.{length}
use Rattle.expectation_impl.proofs.Elements.{PartElement}
use Rattle.expectation_impl.proofs.graph_element.Given as goal

abbrev pub invariant-loop-j : goal.invariant-loop-j
invariant-loop-j l = PartElement l.neighbours l.chosen l.j l.element

abbrev pub decreases-loop-j : goal.decreases-loop-j
decreases-loop-j l = length l.neighbours - l.j
