-- `fails` meets its contract: whether the unknowns give the sum 1.
use mathlib.Core.Path.{◌∙◌}
use Rattle.comparison.proofs.FourWords.{fails-is}
use Rattle.comparison_search.proofs.equations.fails.Goals as goal

pub returns : goal.returns
returns c = c.odd.ensures ∙ fails-is c.args.e c.args.w
