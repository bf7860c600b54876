-- What the loops of `merge` keep.
use mathlib.Core.Bool.{cond}
use mathlib.Core.Path.{◌≡◌}
use lib.ListN.{get_or}
use Rattle.buffers.proofs.Mapping.{Mapped}
use Rattle.words.specs.Bits.{bit}
use Rattle.parties_impl.proofs.masks.merge.Given as goal

abbrev pub invariant-loop-q : goal.invariant-loop-q
invariant-loop-q l =
    Mapped (λ j v. v ≡ cond (bit l.own j) (get_or l.words j 0) (get_or l.initial.neighbours j 0))
    l.initial.neighbours l.neighbours l.q
    × Mapped (λ j v. v ≡ cond (bit l.own j) (get_or l.bytes j 0) (get_or l.initial.codes j 0))
    l.initial.codes l.codes l.q
