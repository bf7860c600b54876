-- `group_return_says` meets its contract.
use Rattle.claims_parties.proofs.SentencesHold.Parties.{group-return-says}
use Rattle.sukhlent.proofs.ties.groups.group_return_says.Goals as goal

pub returns : goal.returns
returns c = group-return-says _ _ _ _ _ _ _ _ _ c.sukhlent_group_return.ensures
