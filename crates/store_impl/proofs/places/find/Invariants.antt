-- What the loops of `find` keep.
use Rattle.store.specs.Places.{has_name}
use Rattle.words.proofs.Searching.{NoneBelow}
use Rattle.store_impl.proofs.places.find.Given as goal

abbrev pub invariant-loop-i : goal.invariant-loop-i
invariant-loop-i l = NoneBelow (has_name l.heads l.name) l.i
