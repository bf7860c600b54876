-- `expectation_says` meets its contract.
use Rattle.claims.proofs.SentencesHold.Expectations.{expectation-says}
use Rattle.sukhlent.proofs.ties.expectations.expectation_says.Goals as goal

pub returns : goal.returns
returns c = expectation-says _ _ _ _ _ _ c.sukhlent_expectation.ensures
