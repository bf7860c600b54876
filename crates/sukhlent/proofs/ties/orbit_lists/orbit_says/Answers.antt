-- `orbit_says` meets its contract.
use Rattle.claims.proofs.SentencesHold.Orbits.{orbit-says}
use Rattle.sukhlent.proofs.ties.orbit_lists.orbit_says.Goals as goal

pub returns : goal.returns
returns c = orbit-says _ _ _ _ _ _ _ c.sukhlent_orbit.ensures
