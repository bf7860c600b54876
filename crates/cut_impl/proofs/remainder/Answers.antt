-- `remainder` meets its contract: w with words of the basis added to it, as long as its smallest set bit is that of one
-- of them.
use Rattle.cut_impl.proofs.Remainders.{all-reduced, reduced-no-more, reduced-once, reducing-start, smallest-below, smallest-rises}
use Rattle.cut_impl.proofs.remainder.Goals as goal

pub loop-rest-init : goal.loop-rest-init
loop-rest-init c = reducing-start _ _ c.ranges.w.fits

pub bounds-basis-i : goal.bounds-basis-i
bounds-basis-i c =
    smallest-below _ c.requires _ _ c.loop-rest.invariant c.loop-rest-test.true _ c.smallest-i.ensures.0

pub returns-then-word-eq0 : goal.returns-then-word-eq0
returns-then-word-eq0 c =
    reduced-no-more _ c.requires _ _ c.loop-rest.invariant c.loop-rest-test.true _ c.smallest-i.ensures.0
    c.if-word-eq0.true

pub loop-rest-smaller : goal.loop-rest-smaller
loop-rest-smaller c =
    smallest-rises _ c.requires _ _ c.loop-rest.invariant c.loop-rest-test.true _ c.smallest-i.ensures.0
    c.if-word-eq0.false

pub loop-rest-preserved : goal.loop-rest-preserved
loop-rest-preserved c =
    reduced-once _ c.requires _ _ c.loop-rest.invariant c.loop-rest-test.true _ c.smallest-i.ensures.0
    c.if-word-eq0.false

pub returns : goal.returns
returns c = all-reduced _ _ _ c.loop-rest.invariant c.loop-rest-test.false
