-- `generate_says` meets its contract.
use Rattle.claims.proofs.SentencesHold.Generator.{generate-says}
use Rattle.sukhlent.proofs.ties.generator.generate_says.Goals as goal

pub returns : goal.returns
returns c = generate-says _ _ _ _ _ _ _ _ c.sukhlent_generate.ensures
