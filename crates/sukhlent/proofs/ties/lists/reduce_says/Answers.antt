-- `reduce_says` meets its contract.
use Rattle.claims.proofs.SentencesHold.Lists.{reduce-says}
use Rattle.sukhlent.proofs.ties.lists.reduce_says.Goals as goal

pub returns : goal.returns
returns c = reduce-says _ _ _ _ _ _ _ _ c.sukhlent_reduce.ensures
