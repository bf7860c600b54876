-- `uncross_both` meets its contract: both codes uncrossed.
use Rattle.operations.proofs.Keeping.{kept_trans}
use borrow.Author.Rules.{rules}
use Rattle.operations_gates.proofs.unsettled.uncross_both.Goals as goal

pub uncross-requires : goal.uncross-requires
uncross-requires c = search rules

pub uncross-requires-2 : goal.uncross-requires-2
uncross-requires-2 c = search rules

pub uncross-requires-3 : goal.uncross-requires-3
uncross-requires-3 c = search rules

pub shape_of-neighbours : goal.shape_of-neighbours
shape_of-neighbours c = search rules

pub shape_of-codes : goal.shape_of-codes
shape_of-codes c = search rules

pub returns : goal.returns
returns c = search (rules, kept_trans)
