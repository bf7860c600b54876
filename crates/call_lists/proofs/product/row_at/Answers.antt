-- `row_at` meets its contract: row j of a list: a minus sign is two quarter turns.
use Rattle.call_lists.proofs.PartProducts.{two-turns}
use Rattle.call_lists.proofs.product.row_at.Goals as goal

pub returns : goal.returns
returns c = two-turns _ _ _ c.requires.j_bound
