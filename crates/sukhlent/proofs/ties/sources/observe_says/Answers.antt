-- `observe_says` meets its contract.
use Rattle.claims.proofs.ObservationsHold.{observe-says}
use Rattle.sukhlent.proofs.ties.sources.observe_says.Goals as goal

pub returns : goal.returns
returns c = observe-says _ _ _ _ _ _ _ _ _ _ _ _ c.sukhlent_observe.ensures
