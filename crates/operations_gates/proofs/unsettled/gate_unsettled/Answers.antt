-- `gate_unsettled` meets its contract: code k after the code held at q.
use Rattle.operations.proofs.UnrefusedRecords.{unrefused-codes, unrefused-place}
use Rattle.operations_gates.proofs.UnsettledGroups.{gate-held}
use borrow.Author.Rules.{rules}
use Rattle.operations_gates.proofs.unsettled.gate_unsettled.Goals as goal

pub gate_code-requires : goal.gate_code-requires
gate_code-requires c =
    (unrefused-place _ _ c.requires.unrefused _ c.requires.q_in_bounds.0, (unrefused-codes _ _ c.requires.unrefused).1, c.requires.q_in_bounds.1)

pub shape_of-codes : goal.shape_of-codes
shape_of-codes c = search rules

pub returns : goal.returns
returns c =
    gate-held _ _ c.requires.unrefused c.args.q c.requires.q_in_bounds.0 c.args.k _
    c.gate_code.ensures
