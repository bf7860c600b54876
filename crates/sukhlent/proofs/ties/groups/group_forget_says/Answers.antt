-- `group_forget_says` meets its contract.
use Rattle.claims_parties.proofs.SentencesHold.Parties.{group-forget-says}
use Rattle.sukhlent.proofs.ties.groups.group_forget_says.Goals as goal

pub returns : goal.returns
returns c = group-forget-says _ _ _ _ _ _ _ c.sukhlent_group_forget.ensures
