-- `save_says` meets its contract.
use Rattle.claims.proofs.SentencesHold.Stores.{save-says}
use Rattle.sukhlent.proofs.ties.stores.save_says.Goals as goal

pub returns : goal.returns
returns c = save-says _ _ _ _ _ _ _ c.sukhlent_save.ensures
