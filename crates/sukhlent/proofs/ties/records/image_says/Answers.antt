-- `image_says` meets its contract.
use Rattle.claims.proofs.SentencesHold.Records.{image-says}
use Rattle.sukhlent.proofs.ties.records.image_says.Goals as goal

pub returns : goal.returns
returns c = image-says _ _ _ _ _ _ _ _ _ _ c.sukhlent_image.ensures
