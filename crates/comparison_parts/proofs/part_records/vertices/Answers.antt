-- `vertices` meets its contract.
use mathlib.Core.Path.{refl, subst, sym}
use Prim.Native.Nat.{◌<◌}
use native.Mathlib.Omega.{arith}
use Rattle.words.proofs.BitLaws.{flip-less}
use Rattle.comparison_parts.proofs.Listing.{Listing, listing-end, listing_start, listing_step, place-below, place-taken, room}
use Rattle.comparison_parts.proofs.part_records.vertices.Goals as goal

pub loop-rest-init : goal.loop-rest-init
loop-rest-init c = listing_start c.args.component _ refl c.ranges.component.fits

pub bounds-at-k : goal.bounds-at-k
bounds-at-k c =
    room c.args.component c.loop-rest.at c.loop-rest.k c.loop-rest.rest c.loop-rest.invariant
    c.loop-rest-test.true _ c.smallest-q.ensures.0

pub overflow_add-k : goal.overflow_add-k
overflow_add-k c =
    omega (
      arith,
      room c.args.component c.loop-rest.at c.loop-rest.k c.loop-rest.rest c.loop-rest.invariant
          c.loop-rest-test.true _ c.smallest-q.ensures.0,
    )

pub flip-rest-requires : goal.flip-rest-requires
flip-rest-requires c =
    place-below c.args.component c.loop-rest.at c.loop-rest.k c.loop-rest.rest c.loop-rest.invariant
    c.loop-rest-test.true _ c.smallest-q.ensures.0

pub loop-rest-smaller : goal.loop-rest-smaller
loop-rest-smaller c =
    subst (λ v. v < c.loop-rest.rest) (sym c.flip-rest.ensures)
    (flip-less c.loop-rest.rest _ (place-taken c.args.component c.loop-rest.at c.loop-rest.k c.loop-rest.rest
    c.loop-rest.invariant c.loop-rest-test.true _ c.smallest-q.ensures.0))

pub loop-rest-preserved : goal.loop-rest-preserved
loop-rest-preserved c =
    subst (Listing c.args.component _ _) (sym c.flip-rest.ensures)
    (listing_step c.args.component c.loop-rest.at c.loop-rest.k c.loop-rest.rest c.loop-rest.invariant
    c.loop-rest-test.true _ c.smallest-q.ensures.0)

pub returns : goal.returns
returns c = listing-end c.args.component _ _ _ c.loop-rest.invariant c.loop-rest-test.false
