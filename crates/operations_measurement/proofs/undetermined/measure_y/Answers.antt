-- `measure_y` meets its contract: measures the letter to which the code at q sends Y.
use Rattle.operations_measurement.proofs.MeasuredComplements.{complement-asks, complement-measured}
use Rattle.operations_measurement.proofs.undetermined.measure_y.Goals as goal

pub turn_parted-requires : goal.turn_parted-requires
turn_parted-requires c =
    let start = c.requires in let whole = complement-asks _ _ start.0 c.args.q start.1 _ _ c.complement_parted-near.ensures.codes_after c.complement_parted-near.ensures.value in record { codes_len_bound = whole.0; near_bound = whole.1 }

pub returns : goal.returns
returns c =
    let start = c.requires in
    complement-measured _ _ start.0 c.args.q start.1 _ _ c.complement_parted-near.ensures.codes_after c.complement_parted-near.ensures.value
    c.args.outcome _ _
    c.complement_parted-near.auto.neighbours c.complement_parted-near.ensures.same_graph c.turn_parted.ensures
