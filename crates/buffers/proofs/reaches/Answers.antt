-- `reaches` meets its contract: line 6: whether some number of the buffer is b or above.
use Rattle.buffers.proofs.Reaching.{some-all, some-here, some-yet}
use Rattle.buffers.proofs.reaches.Goals as goal

pub loop-value-init : goal.loop-value-init
loop-value-init c = some-yet c.args.b c.args.buffer.now

pub loop-value-preserved : goal.loop-value-preserved
loop-value-preserved c =
    let a = c.args in
    some-here a.b a.buffer.now c.loop-value.found c.loop-value.value-index
    c.loop-value.invariant c.loop-value-test.true

pub returns : goal.returns
returns c =
    let a = c.args in
    some-all a.b a.buffer.now c.loop-value.found c.loop-value.value-index
    c.loop-value.invariant c.loop-value-test.false
