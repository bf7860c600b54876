-- `visit` meets its contract: marks number h, and puts it behind the others where it was not marked.
use mathlib.Core.Path.{sym, ◌∙◌}
use native.Mathlib.Omega.{arith}
use Rattle.orbits_impl.proofs.Marking.{room, visited-anew, visited-before}
use Rattle.orbits_impl.specs.internal.Marks.{marked}
use Rattle.orbits_impl.proofs.search.visit.Goals as goal

pub returns-then-has : goal.returns-then-has
unfolding marked
returns-then-has c =
    visited-before c.args.h c.requires.0 c.args.marks.now c.args.list.now c.args.tail c.requires.1
    (sym c.has.ensures ∙ c.if-has.true)

pub offset_bounds-list-tail : goal.offset_bounds-list-tail
unfolding marked
offset_bounds-list-tail c =
    let R = room c.args.h c.requires.0 c.args.marks.now c.args.list.now c.args.tail c.requires.1
    (sym c.has.ensures ∙ c.if-has.false) in
    record { fits = omega (arith, c.requires.1.places) }

pub bounds-list-tail : goal.bounds-list-tail
unfolding marked
bounds-list-tail c =
    let R = room c.args.h c.requires.0 c.args.marks.now c.args.list.now c.args.tail c.requires.1
    (sym c.has.ensures ∙ c.if-has.false) in
    R

pub overflow_add-result : goal.overflow_add-result
unfolding marked
overflow_add-result c =
    let R = room c.args.h c.requires.0 c.args.marks.now c.args.list.now c.args.tail c.requires.1
    (sym c.has.ensures ∙ c.if-has.false) in
    omega (arith, c.requires.1.places)

pub returns : goal.returns
unfolding marked
returns c =
    visited-anew c.args.h c.requires.0 c.args.marks.now c.args.list.now c.args.tail c.requires.1
    (sym c.has.ensures ∙ c.if-has.false) _ c.flip.ensures
