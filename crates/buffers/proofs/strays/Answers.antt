-- `strays` meets its contract: line 5: whether some word of the buffer has a bit at or above n.
use mathlib.Core.Path.{◌∙◌}
use Prim.Native.Nat.{◌^◌}
use lib.Dec.{leb}
use Rattle.buffers.proofs.Reaching.{some-all, some-here-or, some-yet-or}
use Rattle.buffers.proofs.strays.Goals as goal

pub loop-word-init : goal.loop-word-init
loop-word-init c = some-yet-or c.args.n c.args.buffer.now

pub loop-word-preserved : goal.loop-word-preserved
loop-word-preserved c =
    let inside = c in
    let a = inside.args in
    some-here-or a.n a.buffer.now inside.loop-word.all inside.loop-word.word-index
    inside.loop-word.invariant inside.loop-word-test.true

pub returns : goal.returns
returns c =
    let outside = c in
    let a = outside.args in
    c.stray.ensures
    ∙ some-all (2 ^ a.n) a.buffer.now (leb (2 ^ a.n) outside.loop-word.all) outside.loop-word.word-index
    outside.loop-word.invariant outside.loop-word-test.false
