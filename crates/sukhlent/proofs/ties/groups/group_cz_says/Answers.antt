-- `group_cz_says` meets its contract.
use Rattle.claims_parties.proofs.SentencesHold.Parties.{group-cz-says}
use Rattle.sukhlent.proofs.ties.groups.group_cz_says.Goals as goal

pub returns : goal.returns
returns c = group-cz-says _ _ _ _ _ _ _ _ c.sukhlent_group_cz.ensures
