-- `spread` meets its contract: marks the orbit of graph g in words that are 0.
use mathlib.Core.Path.{sym, ◌∙◌}
use native.Mathlib.Nat.{lt_of_lt_of_le}
use native.Mathlib.Omega.{arith}
use Rattle.orbits_impl.proofs.Following.{follow-more, follow-spread, follow-start, next_small, none-marked}
use Rattle.orbits.proofs.Pairs.{graphs-fit}
use Rattle.orbits_impl.proofs.Marking.{tail-fits}
use Rattle.orbits_impl.proofs.search.spread.Goals as goal

pub visit-tail-requires : goal.visit-tail-requires
visit-tail-requires c = (
  lt_of_lt_of_le c.requires.2 (graphs-fit c.args.n c.requires.1),
  none-marked c.args.marks.now c.args.list.now c.requires.4 c.requires.3,
)

pub loop-head-init : goal.loop-head-init
loop-head-init c =
    follow-start c.args.n c.args.g c.requires.1 c.requires.2 c.requires.4 c.visit-tail.ensures

pub offset_bounds-list-head : goal.offset_bounds-list-head
offset_bounds-list-head c = record { fits = omega (arith, tail-fits c.loop-head.invariant.queue) }

pub bounds-list-head : goal.bounds-list-head
bounds-list-head c =
    let Q = c.loop-head.invariant.queue in
    omega (arith, tail-fits Q, Q.places)

pub overflow_cast-next : goal.overflow_cast-next
overflow_cast-next c = omega (arith, c.type_inv.list c.loop-head.head)

pub visit_around-tail-requires : goal.visit_around-tail-requires
visit_around-tail-requires c =
    record {
      le_n = (
        c.requires.0,
        c.requires.1,
        next_small c.args.n c.args.g c.requires.1 c.requires.2 c.loop-head.invariant c.loop-head-test.true,
        c.all_pairs_within-within.ensures,
      );
      queue = c.loop-head.invariant.queue;
    }

pub loop-head-smaller : goal.loop-head-smaller
loop-head-smaller c =
    omega (arith, c.loop-head-test.true, tail-fits c.loop-head.invariant.queue)

pub loop-head-preserved : goal.loop-head-preserved
loop-head-preserved c =
    follow-more c.args.n c.args.g c.requires.1 c.requires.2 c.loop-head.invariant c.loop-head-test.true
    c.visit_around-tail.ensures

pub shape_of-list : goal.shape_of-list
shape_of-list c =
    c.loop-head.invariant.queue.places ∙ sym c.requires.3

pub returns : goal.returns
returns c =
    follow-spread c.args.n c.args.g c.requires.1 c.requires.2 c.loop-head.invariant c.loop-head-test.false
    c.visit-tail.ensures c.requires.3
