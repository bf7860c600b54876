-- `complement_says` meets its contract.
use Rattle.claims.proofs.SentencesHold.Records.{complement-says}
use Rattle.sukhlent.proofs.ties.records.complement_says.Goals as goal

pub returns : goal.returns
returns c = complement-says _ _ _ _ _ c.sukhlent_complement.ensures
