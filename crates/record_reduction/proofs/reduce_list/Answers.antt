-- `reduce_list` meets its contract: the reduced record of a lent list, where its generators are independent: then it is
-- written, and the answer is true.
use Rattle.record_reduction.proofs.Loading.{loaded-rows}
use Rattle.record_reduction.proofs.reduce_list.Goals as goal

pub reduce_tableau-requires : goal.reduce_tableau-requires
reduce_tableau-requires c = record { le_n = (c.requires.reducible.positive, c.requires.reducible.upto, c.requires.neighbours_len.0, c.requires.neighbours_len.1); loaded = loaded-rows _ c.requires.reducible _ c.load_list-rows.ensures }
