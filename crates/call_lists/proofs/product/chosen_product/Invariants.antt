-- What the loops of `chosen_product` keep.
use Rattle.call_lists.proofs.PartProducts.{PartProduct}
use Rattle.call_lists.proofs.product.chosen_product.Given as goal

abbrev pub invariant-loop-j : goal.invariant-loop-j
invariant-loop-j l = PartProduct (record { n = l.n; signs = l.signs; z = l.z; x = l.x }) l.chosen l.j l.product
