-- What the loops of `extract` keep.
use lib.ListN.{get_or, length}
use Rattle.buffers.proofs.Filling.{Filled}
use Rattle.comparison_parts.specs.internal.Listed.{renumbered}
use Rattle.comparison_parts.proofs.part_records.extract.Given as goal

abbrev pub invariant-loop-i : goal.invariant-loop-i
invariant-loop-i l =
    Filled (length l.at) (λ i. renumbered (length l.at) l.at (get_or l.neighbours (get_or l.at i 0) 0)) l.words
    l.i
    × Filled (length l.at) (λ i. get_or l.codes (get_or l.at i 0) 0) l.numbers l.i
