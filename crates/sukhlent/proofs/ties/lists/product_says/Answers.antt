-- `product_says` meets its contract.
use Rattle.claims.proofs.SentencesHold.Lists.{product-says}
use Rattle.sukhlent.proofs.ties.lists.product_says.Goals as goal

pub returns : goal.returns
returns c = product-says _ _ _ _ _ _ _ _ _ c.sukhlent_product.ensures
