-- What the loops of `named_twice` keep.
use mathlib.Core.Bool.{◌&&◌}
use Rattle.store.specs.Places.{holds_name, is_held, name_at}
use Rattle.words.proofs.Searching.{NoneBelow}
use Rattle.store_impl.proofs.checks.named_twice.Given as goal

abbrev pub invariant-loop-i : goal.invariant-loop-i
invariant-loop-i l = NoneBelow (λ j. is_held l.heads j && holds_name j l.heads (name_at l.heads j)) l.i
