-- `group_observe_says` meets its contract.
use Rattle.claims_parties.proofs.SourceSentences.{group-observe-says}
use Rattle.sukhlent.proofs.ties.sources.group_observe_says.Goals as goal

pub returns : goal.returns
returns c =
    group-observe-says _ _ _ _ _ _ _ _ _ _ _ _ _ _
    c.sukhlent_group_observe.ensures
