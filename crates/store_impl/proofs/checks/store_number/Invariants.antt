-- What the loops of `store_number` keep.
use Rattle.buffers.specs.internal.Numbers.{number_of}
use Rattle.store_impl.proofs.PlaceNumbers.{Passed}
use Rattle.store_impl.proofs.checks.store_number.Given as goal

abbrev pub invariant-loop-i : goal.invariant-loop-i
invariant-loop-i l =
    Passed l.k (record { heads = l.heads; neighbours = l.neighbours; codes = l.codes }) (number_of l.first) l.i
