-- `place_for` meets its contract: the place that a save takes.
use Rattle.std.proofs.Common.{rules}
use Rattle.store_impl.proofs.FoundPlaces.{saved-place}
use Rattle.store_impl.proofs.places.place_for.Goals as goal

pub returns : goal.returns
returns c =
    let a = c.args in
    let S = saved-place a.k a.heads.now a.name _ _ c.find.ensures.place c.find.ensures.within c.or_else.ensures
    (λ p. (search rules, search rules)) in
    record { place = S.0; within = S.1 }
