-- `compare_says` meets its contract.
use Rattle.claims.proofs.SentencesHold.Comparisons.{compare-says}
use Rattle.sukhlent.proofs.ties.comparisons.compare_says.Goals as goal

pub returns : goal.returns
returns c = compare-says _ _ _ _ _ _ _ _ _ c.sukhlent_compare.ensures
