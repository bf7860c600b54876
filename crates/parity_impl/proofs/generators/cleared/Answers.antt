-- `cleared` meets its contract: a generator, times another that commutes with it where it does not commute with the
-- row.
use mathlib.Core.Path.{◌∙◌, sym}
use borrow.Author.Tests.{not-false, not-true}
use Rattle.parity.proofs.ChangedLists.{left_alone, letters-commute, multiplied}
use Rattle.parity_impl.proofs.generators.cleared.Goals as goal

pub returns-then-not-clashes : goal.returns-then-not-clashes
returns-then-not-clashes c =
    let a = c.args in
    left_alone a.own.minus a.own.z a.own.x a.z a.x _
    (sym c.clashes.ensures ∙ not-true _ c.if-not-clashes.true-raw)

pub letters_minus-minus-requires : goal.letters_minus-minus-requires
letters_minus-minus-requires c =
    let a = c.args in
    sym (letters-commute a.own a.by) ∙ c.requires

pub returns : goal.returns
returns c =
    let a = c.args in
    multiplied a.own a.by a.z a.x (sym c.clashes.ensures ∙ not-false _ c.if-not-clashes.false-raw) _
    c.letters_minus-minus.ensures
