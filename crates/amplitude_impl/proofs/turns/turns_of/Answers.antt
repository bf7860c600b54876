-- `turns_of` meets its contract: the power of i of vertex j in a word of vertices without a Hadamard, from 0 to 3: by
-- its code, and a minus for each smaller neighbour in the word.
use mathlib.Core.Bool.{◌&&◌}
use borrow.Author.Tests.{not-false, not-true}
use Rattle.amplitude_impl.proofs.Vertices.{turns-none, turns-some}
use Rattle.words.specs.Bits.{bit, parity}
use Rattle.amplitude_impl.proofs.turns.turns_of.Goals as goal

pub returns-then-not-has : goal.returns-then-not-has
returns-then-not-has c =
    let a = c.args in
    turns-none a.code c.has.ensures (parity a.j (λ q. bit a.word q && bit a.chosen q))
    (not-true _ c.if-not-has.true-raw)

pub returns : goal.returns
returns c =
    turns-some c.args.code c.has.ensures _ (not-false _ c.if-not-has.false-raw) c.requires.1 _
    c.dot_below.ensures
