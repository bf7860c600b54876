-- What the loops of `vertices` keep.
use Rattle.comparison_parts.proofs.Listing.{Listing}
use Rattle.comparison_parts.proofs.part_records.vertices.Given as goal

abbrev pub invariant-loop-rest : goal.invariant-loop-rest
invariant-loop-rest l = Listing l.component l.at l.k l.rest

abbrev pub decreases-loop-rest : goal.decreases-loop-rest
decreases-loop-rest l = l.rest
