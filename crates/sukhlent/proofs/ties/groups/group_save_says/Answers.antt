-- `group_save_says` meets its contract.
use Rattle.claims_parties.proofs.SentencesHold.Parties.{group-save-says}
use Rattle.sukhlent.proofs.ties.groups.group_save_says.Goals as goal

pub returns : goal.returns
returns c =
    group-save-says _ _ _ _ _ _ _ _ _
    c.sukhlent_group_save.ensures
