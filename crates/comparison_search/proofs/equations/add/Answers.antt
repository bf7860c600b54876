-- `add` meets its contract: the sum of two equations.
use mathlib.Core.Path.{refl}
use Rattle.comparison_search.proofs.equations.add.Goals as goal

pub returns : goal.returns
returns c = refl
