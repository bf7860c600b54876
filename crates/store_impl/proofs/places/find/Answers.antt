-- `find` meets its contract: the place that holds a record under the name; `None` where none does.
use mathlib.Core.Path.{sym, ◌∙◌}
use native.Mathlib.Omega.{arith}
use Rattle.words.proofs.Searching.{first_found, none_found, none_here}
use Rattle.store_impl.proofs.places.find.Goals as goal

pub returns-then-has_name-clause-place : goal.returns-then-has_name-clause-place
returns-then-has_name-clause-place c =
    first_found _ _ c.loop-i.invariant _ (omega arith) (sym c.has_name.ensures ∙ c.if-has_name.true)

pub loop-i-preserved : goal.loop-i-preserved
loop-i-preserved c = none_here _ _ c.loop-i.invariant (sym c.has_name.ensures ∙ c.if-has_name.false)

pub returns-clause-place : goal.returns-clause-place
returns-clause-place c = none_found _ _ c.loop-i.invariant _ (omega arith)
