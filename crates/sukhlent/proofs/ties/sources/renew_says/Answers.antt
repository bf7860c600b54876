-- `renew_says` meets its contract.
use Rattle.claims.proofs.RenewalsHold.{renew-says}
use Rattle.sukhlent.proofs.ties.sources.renew_says.Goals as goal

pub returns : goal.returns
returns c = renew-says _ _ _ _ _ _ _ c.sukhlent_renew.ensures
