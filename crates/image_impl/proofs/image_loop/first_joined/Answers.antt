-- `first_joined` meets its contract: the smallest vertex of the set c that has a neighbour in c.
use mathlib.Core.Bool.{not}
use mathlib.Core.Path.{ap}
use borrow.Author.Tests.{eq-eqb, ne_eqb}
use Rattle.buffers.proofs.OverSets.{next-below, next-less}
use Rattle.words.proofs.Dropping.{dropped-at}
use Rattle.image_impl.proofs.JoinedSearch.{seek-end, seek-found, seek-on, seek-start}
use Rattle.image_impl.proofs.image_loop.first_joined.Goals as goal

pub loop-rest-init : goal.loop-rest-init
loop-rest-init c = seek-start _ _ c.requires.1

pub bounds-neighbours-j : goal.bounds-neighbours-j
bounds-neighbours-j c =
    next-below _ _ _ _ _ c.loop-rest.invariant c.requires.0 c.loop-rest-test.true _
    c.smallest-j.ensures.0

pub returns-then-neighbours-j-ne0-clause-some : goal.returns-then-neighbours-j-ne0-clause-some
returns-then-neighbours-j-ne0-clause-some c = (
  seek-found _ _ _ c.loop-rest.invariant c.requires.0 c.loop-rest-test.true _
      c.smallest-j.ensures.0 (ap not (ne_eqb _ _ c.if-neighbours-j-ne0.true)),
  next-below _ _ _ _ _ c.loop-rest.invariant c.requires.0 c.loop-rest-test.true _
      c.smallest-j.ensures.0,
)

pub loop-rest-smaller : goal.loop-rest-smaller
loop-rest-smaller c =
    next-less _ _ _ _ _ c.loop-rest.invariant c.requires.0 c.loop-rest-test.true _
    c.smallest-j.ensures.0 _
    (dropped-at _ _ _ c.without_smallest-rest.ensures c.smallest-j.ensures.0)

pub loop-rest-preserved : goal.loop-rest-preserved
loop-rest-preserved c =
    seek-on _ _ _ c.loop-rest.invariant c.requires.0 c.loop-rest-test.true _ c.smallest-j.ensures.0 _
    (dropped-at _ _ _ c.without_smallest-rest.ensures c.smallest-j.ensures.0)
    (ap not (eq-eqb _ _ c.if-neighbours-j-ne0.false))

pub returns-clause-none : goal.returns-clause-none
returns-clause-none c = seek-end _ _ _ c.loop-rest.invariant c.loop-rest-test.false
