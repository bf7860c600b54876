-- `check_says` meets its contract.
use Rattle.claims.proofs.SentencesHold.Lists.{check-says}
use Rattle.sukhlent.proofs.ties.lists.check_says.Goals as goal

pub returns : goal.returns
returns c = check-says _ _ c.sukhlent_check.ensures
