-- `measure_group` meets its contract: the group after a measurement of l at q: the same where it is determined.
use mathlib.Core.Path.{sym, ◌∙◌}
use Rattle.operations_measurement.proofs.MeasuredGroups.{measured-determined}
use Rattle.operations_measurement.proofs.measure_group.Goals as goal

pub returns-then-determined : goal.returns-then-determined
returns-then-determined c =
    measured-determined _ _ c.requires.unrefused.0 c.args.q c.requires.unrefused.1 c.args.l c.args.bit
    c.requires.determined_value
    c.if-determined.true

pub measure_open-requires : goal.measure_open-requires
measure_open-requires c = record { unrefused = c.requires.unrefused; q_value = sym c.requires.determined_value ∙ c.if-determined.false; fact = c.requires.fact }
