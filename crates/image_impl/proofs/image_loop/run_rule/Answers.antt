-- `run_rule` meets its contract: the image rule, the next complementations until there are none.
use mathlib.Core.Path.{refl}
use Rattle.image_impl.proofs.Rounds.{next-ready, reached-start, round-end, round-on}
use Rattle.image_impl.proofs.image_loop.run_rule.Goals as goal

pub loop-next-init : goal.loop-next-init
loop-next-init c = reached-start _ _ c.requires.1

pub next_moves-requires : goal.next_moves-requires
next_moves-requires c =
    next-ready _ _ _ c.requires.0 c.requires.1 c.loop-next.invariant

pub loop-next-smaller : goal.loop-next-smaller
loop-next-smaller c =
    let next = c.in-Some.ensures.some in
    (round-on _ _ _ c.requires.0 c.requires.1 c.loop-next.invariant _ next.0 next.1).1

pub loop-next-preserved : goal.loop-next-preserved
loop-next-preserved c =
    let next = c.in-Some.ensures.some in
    (round-on _ _ _ c.requires.0 c.requires.1 c.loop-next.invariant _ next.0 next.1).0

pub returns : goal.returns
returns c =
    round-end _ _ _ c.requires.0 c.requires.1 c.loop-next.invariant _ c.in_default.ensures.none refl
