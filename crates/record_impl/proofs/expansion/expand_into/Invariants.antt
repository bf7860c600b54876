-- What the loops of `expand_into` keep.
use Rattle.record.specs.Lent.{held_rows, lent_record}
use Rattle.record.proofs.ExpandedBuffers.{BuffersMade}
use Rattle.record_impl.proofs.expansion.expand_into.Given as goal

abbrev pub invariant-loop-j : goal.invariant-loop-j
invariant-loop-j l = BuffersMade l.n (held_rows (lent_record l.n l.neighbours l.codes)) l.signs l.z l.x l.j
