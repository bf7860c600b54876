-- What the loop of `part` keeps.
use Prim.Native.Nat.{◌-◌, ◌^◌}
use lib.ListN.{length}
use Rattle.record.specs.NeighbourWords.{graph_in}
use Rattle.comparison_parts.proofs.Spreading.{Growing}
use Rattle.comparison_parts.proofs.sets.part.Given as goal

abbrev pub invariant-loop-reached : goal.invariant-loop-reached
invariant-loop-reached l = Growing (length l.neighbours) (graph_in l.neighbours) l.q l.reached

abbrev pub decreases-loop-reached : goal.decreases-loop-reached
decreases-loop-reached l = 2 ^ length l.neighbours - l.reached
