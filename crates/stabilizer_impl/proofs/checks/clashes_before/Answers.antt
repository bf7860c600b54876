-- `clashes_before` meets its contract: whether generator i fails to commute with one before it.
use Rattle.stabilizer.proofs.Pairs.{clashes_with}
use Rattle.stabilizer.proofs.Scanning.{found_at, found_nowhere}
use Rattle.stabilizer_impl.proofs.checks.clashes_before.Goals as goal

pub returns-then-clashes : goal.returns-then-clashes
returns-then-clashes c =
    let a = c.args in
    found_at a.i (clashes_with a.z.now a.x.now a.i) c.loop-j.j c.loop-j-test.true
    c.clashes.ensures c.if-clashes.true

pub returns : goal.returns
returns c =
    let a = c.args in
    found_nowhere a.i (clashes_with a.z.now a.x.now a.i) c.loop-j.j
    c.loop-j.invariant c.loop-j-test.false
