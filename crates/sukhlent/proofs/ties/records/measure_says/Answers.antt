-- `measure_says` meets its contract.
use Rattle.claims.proofs.SentencesHold.Records.{measure-says}
use Rattle.sukhlent.proofs.ties.records.measure_says.Goals as goal

pub returns : goal.returns
returns c = measure-says _ _ _ _ _ _ _ _ _ _ _ _ c.sukhlent_measure.ensures
