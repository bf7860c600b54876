-- What the loops of `large_count` keep.
use lib.Dec.{ltb}
use Rattle.store.specs.Places.{count_at}
use Rattle.words.proofs.Searching.{NoneBelow}
use Rattle.store_impl.proofs.checks.large_count.Given as goal

abbrev pub invariant-loop-i : goal.invariant-loop-i
invariant-loop-i l = NoneBelow (λ j. ltb 64 (count_at l.heads j)) l.i
