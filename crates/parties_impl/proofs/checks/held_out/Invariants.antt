-- What the loops of `held_out` keep.
use mathlib.Core.Bool.{◌&&◌}
use mathlib.Core.List.{[]}
use Rattle.parties.specs.Masks.{reaches_out}
use Rattle.store.specs.Places.{is_held, place_at}
use Rattle.words.proofs.Searching.{NoneBelow}
use Rattle.words.specs.Bits.{bit}
use Rattle.parties_impl.proofs.checks.held_out.Given as goal

abbrev pub invariant-loop-i : goal.invariant-loop-i
invariant-loop-i l =
    NoneBelow (λ j. is_held l.heads j
    && reaches_out (bit l.own) (place_at (record { heads = l.heads; neighbours = l.neighbours; codes = [] }) j)) l.i
