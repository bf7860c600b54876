-- `next_moves` meets its contract: the next complementations, if there are any.
use native.Mathlib.Omega.{arith}
use Rattle.words.proofs.BitLaws.{lt-of-bits}
use Rattle.image_impl.proofs.NextMoves.{none_done, single-done, single-ready, triple-done, triple-ready, where-none}
use Rattle.image_impl.proofs.TrackedRecords.{tracked-small}
use mathlib.Core.Path.{refl}
use native.Mathlib.Nat.{ne_of_lt}
use Rattle.image_impl.proofs.image_loop.next_moves.Goals as goal

pub complement_at-requires : goal.complement_at-requires
complement_at-requires c =
    single-ready _ _ c.requires.0 c.requires.1 c.smallest.result c.smallest.ensures.0
    c.if-both-ne0.true

pub returns-then-both-ne0-clause-some : goal.returns-then-both-ne0-clause-some
returns-then-both-ne0-clause-some c = (
  single-done _ _ c.requires.0 c.requires.1 c.smallest.result c.smallest.ensures.0
      c.if-both-ne0.true _ c.complement_at.ensures,
  omega (arith, c.complement_at.ensures.count),
)

pub first_joined-requires : goal.first_joined-requires
first_joined-requires c = (tracked-small _ _ c.requires.0, lt-of-bits _ _ c.requires.0.above)

pub returns-in_err-j-clause-none : goal.returns-in_err-j-clause-none
returns-in_err-j-clause-none c =
    where-none _ (none_done _ _ c.requires.0 c.requires.1 c.if-both-ne0.false _ c.in_err-j.ensures.none refl)

pub triple_at-requires : goal.triple_at-requires
triple_at-requires c =
    let J = c.in_ok-j.ensures.some in
    let whole = triple-ready _ _ c.requires.0 c.requires.1 c.if-both-ne0.false _ J.0 (ne_of_lt J.1) c.smallest-k.result
    c.smallest-k.ensures.0 in record { j_in_bounds = whole.0; k_value = whole.1 }

pub returns-clause-some : goal.returns-clause-some
returns-clause-some c =
    let J = c.in_ok-j.ensures.some in (
      triple-done _ _ c.requires.0 c.requires.1 c.if-both-ne0.false _ J.0 (ne_of_lt J.1) c.smallest-k.result
          c.smallest-k.ensures.0 _ c.triple_at.ensures,
      omega (arith, c.triple_at.ensures.count),
    )
