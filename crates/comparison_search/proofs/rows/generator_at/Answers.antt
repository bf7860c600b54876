-- `generator_at` meets its contract: generator j.
use mathlib.Core.Path.{sym}
use Rattle.comparison.proofs.GeneratorRows.{generator-at}
use Rattle.comparison_search.proofs.rows.generator_at.Goals as goal

pub returns : goal.returns
returns c = sym (generator-at c.args.rows.now c.args.j)
