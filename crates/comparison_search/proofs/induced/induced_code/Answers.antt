-- `induced_code` meets its contract: the first record's code, then the choice's, then the inverse of the second's.
use Rattle.comparison.proofs.InducedCodes.{induced-by-calls}
use Rattle.comparison_search.proofs.induced.induced_code.Goals as goal

pub returns : goal.returns
returns c =
    let a = c.args in
    induced-by-calls a.first a.choice a.second c.compose.result
    c.inverse-undone.result.index c.compose-2.result
    c.compose.ensures.0 c.inverse-undone.ensures.0 c.compose-2.ensures.0
