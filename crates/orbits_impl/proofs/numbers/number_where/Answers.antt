-- `number_where` meets its contract: the number of the graph in which two vertices are joined where the test says so.
use mathlib.Core.Path.{refl, subst}
use Prim.Native.Nat.{◌<◌, ◌≤◌}
use native.Mathlib.Omega.{arith}
use Rattle.orbits_impl.proofs.PairLoops.{all-numbered, first-pair, following-pair, none-numbered, one-numbered, this-pair}
use Rattle.orbits_impl.proofs.numbers.number_where.Goals as goal

pub loop-k-init : goal.loop-k-init
loop-k-init g c = (first-pair _ _ c.requires.n_bound.1 refl, λ θ T. none-numbered _ _ θ c.requires.n_bound.1 refl)

pub joined-requires : goal.joined-requires
joined-requires g c =
    let more = subst (λ m. c.loop-k.k < m) c.pair_count-k-end.ensures c.loop-k-test.true in
    let P = this-pair c.loop-k.invariant.0 more in
    c.requires.tests _ P.rises P.below

pub next_pair-pair-requires : goal.next_pair-pair-requires
next_pair-pair-requires g c =
    let more = subst (λ m. c.loop-k.k < m) c.pair_count-k-end.ensures c.loop-k-test.true in
    let P = this-pair c.loop-k.invariant.0 more in
    (omega arith, omega arith)

pub loop-k-preserved : goal.loop-k-preserved
loop-k-preserved g c =
    let more = subst (λ m. c.loop-k.k < m) c.pair_count-k-end.ensures c.loop-k-test.true in
    let P = this-pair c.loop-k.invariant.0 more in (
      following-pair c.loop-k.invariant.0 more _ c.next_pair-pair.ensures,
      λ θ T. one-numbered θ (c.loop-k.invariant.1 θ T) more _ (T _ P.rises P.below _ c.joined.ensures) _
          c.put_bit-number.ensures _ c.next_pair-pair.ensures,
    )

pub returns : goal.returns
returns g c =
    λ θ T. all-numbered θ (c.loop-k.invariant.1 θ T)
    (subst (λ m. m ≤ c.loop-k.k) c.pair_count-k-end.ensures c.loop-k-test.false)
