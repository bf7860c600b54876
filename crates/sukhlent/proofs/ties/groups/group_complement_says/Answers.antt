-- `group_complement_says` meets its contract.
use Rattle.claims_parties.proofs.SentencesHold.Parties.{group-complement-says}
use Rattle.sukhlent.proofs.ties.groups.group_complement_says.Goals as goal

pub returns : goal.returns
returns c = group-complement-says _ _ _ _ _ _ _ c.sukhlent_group_complement.ensures
