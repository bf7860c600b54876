-- `measure_z` meets its contract: measures the letter to which the code at q sends Z.
use mathlib.Core.Path.{refl}
use Rattle.operations.proofs.UnrefusedRecords.{unrefused-place}
use Rattle.operations_measurement.proofs.BringingToZ.{brought-already}
use Rattle.operations_measurement.proofs.MeasuredGroups.{measured-open}
use Rattle.operations_measurement.proofs.undetermined.measure_z.Goals as goal

pub bounds-codes-q : goal.bounds-codes-q
bounds-codes-q c =
    let start = c.requires in
    unrefused-place _ _ start.0 _ start.1

pub returns : goal.returns
returns c =
    let start = c.requires in
    measured-open _ _ start.0 c.args.q start.1 _ _ _
    (brought-already _ _ start.0 c.args.q start.1)
    c.args.outcome _ _ _ refl c.isolate.ensures
