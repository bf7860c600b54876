-- `measure_unsettled` meets its contract: measures a Pauli at q, and leaves a record of the group afterwards.
use mathlib.Core.Path.{◌∙◌}
use Rattle.operations_measurement.proofs.MeasuredGroups.{named-acts}
use Rattle.operations_measurement.proofs.MeasuredBuffers.{answered-as-read, determined-as-read, held-as-read}
use Rattle.operations_measurement.proofs.measure_unsettled.Goals as goal

pub measure_group-requires : goal.measure_group-requires
measure_group-requires c =
    let letter = c.letter_named.ensures in record { unrefused = c.requires.unrefused; determined_value = determined-as-read _ _ _ _ _ _ c.read_off-known.ensures letter; fact = named-acts c.args.pauli c.requires.le_pauli.0 letter }

pub returns : goal.returns
returns c =
    let read = c.read_off-known.ensures in
    let named = c.letter_named.ensures in record { group_held = held-as-read _ _ _ _ _ _ read named c.args.bit _ _ c.measure_group.ensures; value = c.outcome_of.ensures ∙ answered-as-read _ _ _ _ _ _ read named c.args.bit }
