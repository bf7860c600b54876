-- `free` meets its contract: the smallest free place; `None` where all are held.
use mathlib.Core.Path.{sym, ◌∙◌}
use native.Mathlib.Omega.{arith}
use Rattle.words.proofs.Searching.{first_found, none_found, none_here}
use Rattle.store_impl.proofs.places.free.Goals as goal

pub returns-then-is_free-clause-place : goal.returns-then-is_free-clause-place
returns-then-is_free-clause-place c =
    first_found _ _ c.loop-i.invariant _ (omega arith) (sym c.is_free.ensures ∙ c.if-is_free.true)

pub loop-i-preserved : goal.loop-i-preserved
loop-i-preserved c = none_here _ _ c.loop-i.invariant (sym c.is_free.ensures ∙ c.if-is_free.false)

pub returns-clause-place : goal.returns-clause-place
returns-clause-place c = none_found _ _ c.loop-i.invariant _ (omega arith)
