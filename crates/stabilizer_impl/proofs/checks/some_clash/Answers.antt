-- `some_clash` meets its contract: line 9: two generators do not commute.
use mathlib.Core.Path.{◌∙◌}
use Rattle.stabilizer.proofs.Pairs.{clashes_earlier, clashing-words}
use Rattle.stabilizer.proofs.Scanning.{found_at, found_nowhere}
use Rattle.stabilizer_impl.proofs.checks.some_clash.Goals as goal

pub returns-then-clashes_before : goal.returns-then-clashes_before
returns-then-clashes_before c =
    let a = c.args in
    found_at a.n (clashes_earlier a.z.now a.x.now) c.loop-i.i
    c.loop-i-test.true c.clashes_before.ensures c.if-clashes_before.true
    ∙ clashing-words a.n a.z.now a.x.now c.requires.n_bound.0 c.requires.n_bound.1 c.requires.n_bound.2
    c.requires.z_value.0 c.requires.z_value.1

pub returns : goal.returns
returns c =
    let a = c.args in
    found_nowhere a.n (clashes_earlier a.z.now a.x.now) c.loop-i.i c.loop-i.invariant
    c.loop-i-test.false
    ∙ clashing-words a.n a.z.now a.x.now c.requires.n_bound.0 c.requires.n_bound.1 c.requires.n_bound.2
    c.requires.z_value.0 c.requires.z_value.1
