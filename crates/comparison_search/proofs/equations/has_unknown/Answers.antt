-- `has_unknown` meets its contract: whether an equation has unknown i.
use mathlib.Core.Path.{◌∙◌}
use Rattle.comparison_search.proofs.EquationsRows.{unknown-in}
use Rattle.comparison_search.proofs.equations.has_unknown.Goals as goal

pub returns : goal.returns
returns c = c.has.ensures ∙ unknown-in c.args.e c.args.i
