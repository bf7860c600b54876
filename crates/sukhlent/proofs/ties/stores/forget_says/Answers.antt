-- `forget_says` meets its contract.
use Rattle.claims.proofs.SentencesHold.Stores.{forget-says}
use Rattle.sukhlent.proofs.ties.stores.forget_says.Goals as goal

pub returns : goal.returns
returns c = forget-says _ _ _ _ c.sukhlent_forget.ensures
