-- What the loops of `other_count` keep.
use mathlib.Core.Bool.{◌&&◌, not}
use lib.Dec.{eqb}
use Rattle.parties.specs.PartyStores.{own_heads}
use Rattle.store.specs.Places.{count_at, is_held}
use Rattle.words.proofs.Searching.{NoneBelow}
use Rattle.parties_impl.proofs.checks.other_count.Given as goal

abbrev pub invariant-loop-i : goal.invariant-loop-i
invariant-loop-i l =
    NoneBelow (λ j. is_held (own_heads l.party l.heads) j && not (eqb (count_at (own_heads l.party l.heads) j) 64)) l.i
