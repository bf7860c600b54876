-- `first_against` meets its contract: the first generator that does not commute with the row; n where all do.
use mathlib.Core.Path.{◌∙◌, sym}
use Rattle.words.proofs.Searching.{first_found, none_found, none_here, none_yet}
use Rattle.parity_impl.proofs.generators.first_against.Goals as goal

pub loop-j-init : goal.loop-j-init
loop-j-init c = none_yet _

pub returns-then-clashes : goal.returns-then-clashes
returns-then-clashes c =
    first_found _ c.loop-j.j c.loop-j.invariant _ c.loop-j-test.true
    (sym c.clashes.ensures ∙ c.if-clashes.true)

pub loop-j-preserved : goal.loop-j-preserved
loop-j-preserved c =
    none_here _ c.loop-j.j c.loop-j.invariant (sym c.clashes.ensures ∙ c.if-clashes.false)

pub returns : goal.returns
returns c = none_found _ c.loop-j.j c.loop-j.invariant _ c.loop-j-test.false
