-- What the loops of `part_above` keep.
use lib.ListN.{length}
use Rattle.record.specs.NeighbourWords.{graph_in}
use Rattle.comparison_parts.proofs.Spreading.{Seen}
use Rattle.comparison_parts.proofs.sets.part_above.Given as goal

abbrev pub invariant-loop-q : goal.invariant-loop-q
invariant-loop-q l = Seen (length l.neighbours) (graph_in l.neighbours) l.seen l.q
