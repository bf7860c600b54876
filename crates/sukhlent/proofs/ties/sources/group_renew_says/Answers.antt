-- `group_renew_says` meets its contract.
use Rattle.claims_parties.proofs.SourceSentences.{group-renew-says}
use Rattle.sukhlent.proofs.ties.sources.group_renew_says.Goals as goal

pub returns : goal.returns
returns c = group-renew-says _ _ _ _ _ _ _ _ _ c.sukhlent_group_renew.ensures
