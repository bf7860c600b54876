-- What the loops of `mask` keep.
use mathlib.Core.Bool.{cond}
use lib.ListN.{get_or}
use Rattle.buffers.proofs.Filling.{Filled}
use Rattle.words.specs.Bits.{bit}
use Rattle.parties_impl.proofs.masks.mask.Given as goal

abbrev pub invariant-loop-q : goal.invariant-loop-q
invariant-loop-q l =
    Filled 64 (λ j. cond (bit l.own j) (get_or l.neighbours j 0) 0) l.words l.q
    × Filled 64 (λ j. cond (bit l.own j) (get_or l.codes j 0) 8) l.bytes l.q
