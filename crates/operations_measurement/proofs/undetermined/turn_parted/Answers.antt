-- `turn_parted` meets its contract: the codes after Z is measured at a vertex whose edges are gone.
use mathlib.Core.Bool.{beq, not}
use lib.Dec.{lit<}
use lib.ListN.{get_or}
use Rattle.words.specs.Bits.{is_odd}
use Rattle.operations_measurement.proofs.PartedBuffers.{turned-by-calls, where_below}
use Rattle.operations_measurement.proofs.undetermined.turn_parted.Goals as goal

pub with_hadamard-turned-requires : goal.with_hadamard-turned-requires
with_hadamard-turned-requires c = c.requires.codes_len_bound.1 _

pub put_before-requires : goal.put_before-requires
put_before-requires c =
    let t = not (beq c.args.outcome (is_odd (get_or c.args.codes.now c.args.q 0))) in record { codes_len_bound = c.requires.codes_len_bound; word_bound = (where_below _ c.args.near t _ c.requires.near_bound.0 c.where_true.ensures, lit< tt) }

pub returns : goal.returns
returns c =
    turned-by-calls c.args.codes.now c.args.q c.args.outcome c.args.near _ _ _
    c.requires.near_bound.1
    c.where_true.ensures c.put_before.ensures c.with_hadamard-turned.ensures
