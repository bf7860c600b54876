-- `uncross` meets its contract: a complementation where the code is crossed.
use Rattle.operations.proofs.Keeping.{complement-kept}
use Rattle.operations.proofs.UnrefusedRecords.{unrefused-codes, unrefused-place}
use borrow.Author.Rules.{rules}
use Rattle.operations_gates.proofs.unsettled.uncross.Goals as goal

pub bounds-codes-a : goal.bounds-codes-a
bounds-codes-a c = search (rules, unrefused-place)

pub is_crossed-requires : goal.is_crossed-requires
is_crossed-requires c = (unrefused-codes _ _ c.requires.0).1 _

pub complement_record-requires : goal.complement_record-requires
complement_record-requires c = search rules

pub shape_of-neighbours : goal.shape_of-neighbours
shape_of-neighbours c = search rules

pub shape_of-codes : goal.shape_of-codes
shape_of-codes c = search rules

pub returns-then-is_crossed : goal.returns-then-is_crossed
returns-then-is_crossed c = search (rules, complement-kept)

pub returns-else-is_crossed : goal.returns-else-is_crossed
returns-else-is_crossed c = search rules
