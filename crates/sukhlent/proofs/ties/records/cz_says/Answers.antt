-- `cz_says` meets its contract.
use Rattle.claims.proofs.SentencesHold.Records.{cz-says}
use Rattle.sukhlent.proofs.ties.records.cz_says.Goals as goal

pub returns : goal.returns
returns c = cz-says _ _ _ _ _ _ c.sukhlent_cz.ensures
