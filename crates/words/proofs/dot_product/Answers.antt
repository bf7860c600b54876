-- `dot_product` meets its contract: whether the places where both words have a 1 are odd in number.
use Rattle.words.specs.internal.Bits.{dot}
use Rattle.words.proofs.dot_product.Goals as goal

pub returns : goal.returns
unfolding dot
returns c = c.odd.ensures
