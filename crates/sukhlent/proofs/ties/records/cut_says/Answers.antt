-- `cut_says` meets its contract.
use Rattle.claims.proofs.SentencesHold.Records.{cut-says}
use Rattle.sukhlent.proofs.ties.records.cut_says.Goals as goal

pub returns : goal.returns
returns c = cut-says _ _ _ _ _ c.sukhlent_cut.ensures
