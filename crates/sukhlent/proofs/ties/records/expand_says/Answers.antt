-- `expand_says` meets its contract.
use Rattle.claims.proofs.SentencesHold.Records.{expand-says}
use Rattle.sukhlent.proofs.ties.records.expand_says.Goals as goal

pub returns : goal.returns
returns c = expand-says _ _ _ _ _ _ _ _ c.sukhlent_expand.ensures
