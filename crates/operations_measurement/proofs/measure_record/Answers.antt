-- `measure_record` meets its contract: measures a Pauli at q, and leaves the reduced record of the group afterwards.
use Rattle.operations_measurement.proofs.MeasuredGroups.{named-acts}
use Rattle.operations_measurement.proofs.MeasuredBuffers.{determined-as-read, measured-as-read}
use Rattle.operations_measurement.proofs.measure_record.Goals as goal

pub measure_group-requires : goal.measure_group-requires
measure_group-requires c =
    let letter = c.letter_named.ensures in record { unrefused = c.requires.unrefused; determined_value = determined-as-read _ _ _ _ _ _ c.read_off-known.ensures letter; fact = named-acts c.args.pauli c.requires.le_pauli.0 letter }

pub normalise-requires : goal.normalise-requires
normalise-requires c = c.measure_group.ensures.unrefused

pub returns : goal.returns
returns c =
    measured-as-read _ _ _ _ _ _ c.read_off-known.ensures c.letter_named.ensures c.requires.unrefused.0
    c.requires.unrefused.1
    c.args.bit _ c.outcome_of.ensures _ _ c.measure_group.ensures _ _
    c.normalise.ensures
