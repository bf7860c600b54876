-- `settle_next` meets its contract: a look at the smallest vertex that may be out of place: if it is, a step, and what
-- the step may change is added; else it is dropped.
use mathlib.Core.Path.{sym, ◌∙◌}
use native.Mathlib.Omega.{arith}
use borrow.Author.Tests.{not-false, not-true}
use Rattle.operations.proofs.UnrefusedRecords.{unrefused-place, unrefused-short}
use Rattle.words.proofs.Dropping.{dropped-at}
use Rattle.operations_gates.proofs.SettlingLoop.{next-below, next-dropped, next-first, next-settled}
use Rattle.operations_gates.proofs.settling.settle_next.Goals as goal

pub bounds-neighbours-j : goal.bounds-neighbours-j
bounds-neighbours-j c =
    next-below _ _ c.requires.unrefused _ c.requires.watched.0 c.requires.watched.1 _ c.smallest-j.ensures.0

pub bounds-codes-j : goal.bounds-codes-j
bounds-codes-j c =
    unrefused-place _ _ c.requires.unrefused _
    (next-below _ _ c.requires.unrefused _ c.requires.watched.0 c.requires.watched.1 _ c.smallest-j.ensures.0)

pub is_unsettled-requires : goal.is_unsettled-requires
is_unsettled-requires c =
    omega (
      arith,
      unrefused-short _ _ c.requires.unrefused,
      next-below _ _ c.requires.unrefused _ c.requires.watched.0 c.requires.watched.1 _ c.smallest-j.ensures.0,
    )

pub without_smallest-requires : goal.without_smallest-requires
without_smallest-requires c = c.requires.watched.1

pub returns-then-not-is_unsettled : goal.returns-then-not-is_unsettled
returns-then-not-is_unsettled c =
    next-dropped _ _ c.requires.unrefused _ c.requires.watched.0 c.requires.watched.1 _ c.smallest-j.ensures.0
    (sym c.is_unsettled.ensures ∙ not-true _ c.if-not-is_unsettled.true-raw) _
    (dropped-at _ _ _ c.without_smallest.ensures c.smallest-j.ensures.0) _ c.requires.suspected

pub settle_at-touched-requires : goal.settle_at-touched-requires
settle_at-touched-requires c =
    let below = next-below _ _ c.requires.unrefused _ c.requires.watched.0 c.requires.watched.1 _ c.smallest-j.ensures.0 in record {
      unrefused = (c.requires.unrefused, below);
      j_value = next-first _ _ c.requires.unrefused _ c.requires.watched.0 c.requires.watched.1 _ c.smallest-j.ensures.0
          (sym c.is_unsettled.ensures ∙ not-false _ c.if-not-is_unsettled.false-raw);
    }

pub returns : goal.returns
returns c =
    next-settled _ _ c.requires.unrefused _ c.requires.watched.0 c.requires.watched.1 _ c.smallest-j.ensures.0 _
    c.requires.suspected _ _ _ _ c.settle_at-touched.ensures.nearer c.settle_at-touched.ensures.elsewhere
