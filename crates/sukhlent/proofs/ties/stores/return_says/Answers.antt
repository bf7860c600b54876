-- `return_says` meets its contract.
use Rattle.claims.proofs.SentencesHold.Stores.{return-says}
use Rattle.sukhlent.proofs.ties.stores.return_says.Goals as goal

pub returns : goal.returns
returns c = return-says _ _ _ _ _ _ _ _ _ _ _ c.sukhlent_return.ensures
