-- `part` meets its contract: a pivot where the two are joined.
use native.Mathlib.Omega.{arith}
use Rattle.operations.proofs.UnrefusedRecords.{unrefused-short}
use mathlib.Core.Path.{sym, ◌∙◌}
use Rattle.operations.proofs.Keeping.{pivot-kept}
use borrow.Author.Rules.{rules}
use Rattle.operations_gates.proofs.unsettled.part.Goals as goal

pub offset_bounds-neighbours-a : goal.offset_bounds-neighbours-a
offset_bounds-neighbours-a c = search rules

pub bounds-neighbours-a : goal.bounds-neighbours-a
bounds-neighbours-a c = search rules

pub has-requires : goal.has-requires
has-requires c =
    omega (arith, c.requires.a_in_bounds.1, unrefused-short _ _ c.requires.unrefused)

pub pivot_record-requires : goal.pivot_record-requires
pivot_record-requires c = record { unrefused = c.requires.unrefused; j_in_bounds = c.requires.a_in_bounds; k_value = sym c.has.ensures ∙ c.if-has.true }

pub shape_of-neighbours : goal.shape_of-neighbours
shape_of-neighbours c = search rules

pub shape_of-codes : goal.shape_of-codes
shape_of-codes c = search rules

pub returns-then-has : goal.returns-then-has
returns-then-has c =
    pivot-kept _ _ c.requires.unrefused _ _ c.args.a c.args.b c.requires.a_in_bounds.0 c.requires.a_in_bounds.1
    c.pivot_record.ensures

pub returns-else-has : goal.returns-else-has
returns-else-has c = search rules
