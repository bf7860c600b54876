-- `graph_words` meets its contract: the neighbour words of graph g.
use mathlib.Core.Path.{refl, subst}
use Prim.Native.Nat.{◌<◌, ◌≤◌}
use native.Mathlib.Omega.{arith}
use Rattle.orbits_impl.proofs.Edges.{all-joined, none-joined, one-joined}
use Rattle.orbits_impl.proofs.PairLoops.{this-pair}
use Rattle.orbits_impl.proofs.numbers.graph_words.Goals as goal

pub loop-k-init : goal.loop-k-init
loop-k-init c = none-joined _ _ _ c.requires.1 refl

pub offset_bounds-words-low : goal.offset_bounds-words-low
offset_bounds-words-low c =
    let more = subst (λ m. c.loop-k.k < m) c.pair_count-k-end.ensures c.loop-k-test.true in
    record { fits = omega (arith, this-pair c.loop-k.invariant.at more) }

pub bounds-words-low : goal.bounds-words-low
bounds-words-low c =
    let more = subst (λ m. c.loop-k.k < m) c.pair_count-k-end.ensures c.loop-k-test.true in
    omega (arith, this-pair c.loop-k.invariant.at more)

pub set_where-requires : goal.set_where-requires
set_where-requires c =
    let more = subst (λ m. c.loop-k.k < m) c.pair_count-k-end.ensures c.loop-k-test.true in
    omega (arith, this-pair c.loop-k.invariant.at more)

pub offset_bounds-words-low-in-loop-k : goal.offset_bounds-words-low-in-loop-k
offset_bounds-words-low-in-loop-k c =
    let more = subst (λ m. c.loop-k.k < m) c.pair_count-k-end.ensures c.loop-k-test.true in
    record { fits = omega (arith, this-pair c.loop-k.invariant.at more) }

pub bounds-words-low-in-loop-k : goal.bounds-words-low-in-loop-k
bounds-words-low-in-loop-k c =
    let more = subst (λ m. c.loop-k.k < m) c.pair_count-k-end.ensures c.loop-k-test.true in
    omega (arith, this-pair c.loop-k.invariant.at more)

pub offset_bounds-words-high : goal.offset_bounds-words-high
offset_bounds-words-high c =
    let more = subst (λ m. c.loop-k.k < m) c.pair_count-k-end.ensures c.loop-k-test.true in
    record { fits = omega (arith, this-pair c.loop-k.invariant.at more) }

pub bounds-words-high : goal.bounds-words-high
bounds-words-high c =
    let more = subst (λ m. c.loop-k.k < m) c.pair_count-k-end.ensures c.loop-k-test.true in
    omega (arith, this-pair c.loop-k.invariant.at more)

pub set_where-requires-in-loop-k : goal.set_where-requires-in-loop-k
set_where-requires-in-loop-k c =
    let more = subst (λ m. c.loop-k.k < m) c.pair_count-k-end.ensures c.loop-k-test.true in
    omega (arith, this-pair c.loop-k.invariant.at more)

pub offset_bounds-words-high-in-loop-k : goal.offset_bounds-words-high-in-loop-k
offset_bounds-words-high-in-loop-k c =
    let more = subst (λ m. c.loop-k.k < m) c.pair_count-k-end.ensures c.loop-k-test.true in
    record { fits = omega (arith, this-pair c.loop-k.invariant.at more) }

pub bounds-words-high-in-loop-k : goal.bounds-words-high-in-loop-k
bounds-words-high-in-loop-k c =
    let more = subst (λ m. c.loop-k.k < m) c.pair_count-k-end.ensures c.loop-k-test.true in
    omega (arith, this-pair c.loop-k.invariant.at more)

pub next_pair-pair-requires : goal.next_pair-pair-requires
next_pair-pair-requires c =
    let more = subst (λ m. c.loop-k.k < m) c.pair_count-k-end.ensures c.loop-k-test.true in
    let P = this-pair c.loop-k.invariant.at more in
    (omega arith, omega arith)

pub loop-k-preserved : goal.loop-k-preserved
loop-k-preserved c =
    let more = subst (λ m. c.loop-k.k < m) c.pair_count-k-end.ensures c.loop-k-test.true in
    one-joined c.loop-k.invariant more _ c.has-joined.ensures _ _ c.set_where.ensures c.set_where-in-loop-k.ensures _
    c.next_pair-pair.ensures

pub returns : goal.returns
returns c =
    record {
      long = c.loop-k.invariant.long;
      edges = all-joined c.loop-k.invariant
          (subst (λ m. m ≤ c.loop-k.k) c.pair_count-k-end.ensures c.loop-k-test.false);
    }
