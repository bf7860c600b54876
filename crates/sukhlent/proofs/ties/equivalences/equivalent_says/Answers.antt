-- `equivalent_says` meets its contract.
use Rattle.claims.proofs.EquivalentsHold.{equivalent-says}
use Rattle.sukhlent.proofs.ties.equivalences.equivalent_says.Goals as goal

pub returns : goal.returns
returns c = equivalent-says _ _ _ _ _ _ _ _ _ c.sukhlent_equivalent.ensures
