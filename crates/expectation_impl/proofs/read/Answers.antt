-- `read` meets its contract: no value where the letters differ, else whether the signs do.
use mathlib.Core.Bool.{cond}
use mathlib.Core.Path.{◌∙◌, ap, sym}
use lib.Dec.{eqb}
use borrow.Author.Tests.{eq-eqb, ne_eqb}
use Rattle.expectation_impl.proofs.Elements.{signs-differ}
use Rattle.words.specs.Bits.{digit, ◌⊕◌}
use Rattle.expectation_impl.proofs.read.Goals as goal

pub returns-then-element-row : goal.returns-then-element-row
returns-then-element-row c =
    let a = c.args in
    sym (ap (λ b. cond b (digit (eqb a.element.phase 2 ⊕ a.row.minus)) 2) (ne_eqb _ _ c.if-element-row.true))

pub returns : goal.returns
returns c =
    let a = c.args in
    signs-differ (eqb a.element.phase 2) a.row.minus
    ∙ sym (ap (λ b. cond b (digit (eqb a.element.phase 2 ⊕ a.row.minus)) 2)
    (eq-eqb _ _ c.if-element-row.false))
