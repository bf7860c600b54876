-- `normalise` meets its contract: the same where nothing is known of the record.
use Rattle.operations.proofs.UnrefusedRecords.{unrefused-codes}
use Rattle.operations_gates.proofs.SuspectCodes.{suspects-held, suspects-watched}
use Rattle.operations_gates.proofs.settling.normalise.Goals as goal

pub suspects-touched-requires : goal.suspects-touched-requires
suspects-touched-requires c = unrefused-codes _ _ c.requires

pub settle_all-requires : goal.settle_all-requires
settle_all-requires c =
    let start = c.requires in
    let held = c.suspects-touched.ensures in record { unrefused = start; suspected = suspects-held _ _ _ start held; watched = suspects-watched _ _ _ start held }
