-- What the loops of `cut_rank` keep.
use Rattle.record.specs.NeighbourWords.{graph_in}
use Rattle.cut.specs.Cut.{crossing}
use Rattle.words.specs.Bits.{bit}
use Rattle.cut_impl.proofs.Elimination.{Spanning}
use Rattle.cut_impl.proofs.cut_rank.Given as goal

abbrev pub invariant-loop-k : goal.invariant-loop-k
invariant-loop-k l = Spanning l.n (crossing (bit l.side) (graph_in l.neighbours)) l.basis l.rank l.k
