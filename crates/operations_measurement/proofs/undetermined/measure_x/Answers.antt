-- `measure_x` meets its contract: measures the letter to which the code at q sends X.
use Rattle.operations_measurement.proofs.BringingToZ.{neighbour-below}
use Rattle.operations_measurement.proofs.MeasuredPivots.{pivot-asks, pivot-measured}
use Rattle.operations_measurement.proofs.undetermined.measure_x.Goals as goal

pub pivot_parted-near-requires : goal.pivot_parted-near-requires
pivot_parted-near-requires c =
    let start = c.requires.unrefused in
    let edge = c.largest-k.ensures.0 in record { unrefused = start.0; q_in_bounds = (start.1, neighbour-below _ _ start.0 c.args.q start.1 _ edge); k_value = edge }

pub turn_parted-requires : goal.turn_parted-requires
turn_parted-requires c =
    let start = c.requires.unrefused in let whole = pivot-asks _ _ start.0 c.args.q c.largest-k.result start.1
    c.largest-k.ensures.0 _ _
    c.pivot_parted-near.ensures.codes_after c.pivot_parted-near.ensures.by_index in record { codes_len_bound = whole.0; near_bound = whole.1 }

pub returns : goal.returns
returns c =
    let start = c.requires.unrefused in
    pivot-measured _ _ start.0 c.args.q c.largest-k.result start.1
    c.largest-k.ensures.0 _ _ c.pivot_parted-near.ensures.codes_after c.pivot_parted-near.ensures.by_index c.args.outcome _ _
    c.pivot_parted-near.auto.neighbours c.pivot_parted-near.ensures.same_graph c.turn_parted.ensures
