-- `pair_count` meets its contract: line 2: n is 0 or above 64, or the two lists' n differ.
use mathlib.Core.Bool.{◌||◌, not}
use mathlib.Core.Path.{ap₂}
use lib.Dec.{eqb}
use Rattle.call_compare.proofs.pair_count.Goals as goal

pub returns : goal.returns
returns c =
    ap₂ (λ a b. a
    || (b || not (eqb c.args.n c.args.n2)))
    c.bad_count.ensures c.bad_count-2.ensures
