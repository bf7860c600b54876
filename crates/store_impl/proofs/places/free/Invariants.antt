-- What the loops of `free` keep.
use mathlib.Core.Bool.{not}
use Rattle.store.specs.Places.{is_held}
use Rattle.words.proofs.Searching.{NoneBelow}
use Rattle.store_impl.proofs.places.free.Given as goal

abbrev pub invariant-loop-i : goal.invariant-loop-i
invariant-loop-i l = NoneBelow (λ j. not (is_held l.heads j)) l.i
