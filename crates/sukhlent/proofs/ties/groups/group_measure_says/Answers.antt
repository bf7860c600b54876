-- `group_measure_says` meets its contract.
use Rattle.claims_parties.proofs.SentencesHold.Parties.{group-measure-says}
use Rattle.sukhlent.proofs.ties.groups.group_measure_says.Goals as goal

pub returns : goal.returns
returns c =
    group-measure-says _ _ _ _ _ _ _ _ _ _ _ _ _ _
    c.sukhlent_group_measure.ensures
