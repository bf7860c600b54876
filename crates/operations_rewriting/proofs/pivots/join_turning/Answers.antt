-- `join_turning` meets its contract: the edges between the two sets flipped, and 2 before the codes of their vertices.
use Rattle.operations_rewriting.proofs.ThreePasses.{first-ready, flipped-thrice, second-ready, third-ready, turned-thrice}
use Rattle.operations_rewriting.proofs.pivots.join_turning.Goals as goal

pub turn_rows-requires : goal.turn_rows-requires
turn_rows-requires c = let whole = first-ready _ _ c.requires.unrefused _ _ c.requires.to_a_bound.0 c.requires.to_a_bound.1 in record { neighbours_len_bound = whole.0; by_index = whole.1.0; rows_bound = whole.1.1 }

pub turn_rows-requires-2 : goal.turn_rows-requires-2
turn_rows-requires-2 c =
    let whole = second-ready _ _ c.requires.unrefused _ _ c.requires.to_a_bound.0 c.requires.to_a_bound.1
    c.turn_rows.new.neighbours _ c.turn_rows.auto.neighbours c.turn_rows.ensures.codes_after in record { neighbours_len_bound = whole.0; by_index = whole.1.0; rows_bound = whole.1.1 }

pub turn_rows-requires-3 : goal.turn_rows-requires-3
turn_rows-requires-3 c =
    let whole = third-ready _ _ c.requires.unrefused _ _ c.requires.to_a_bound.0 c.requires.to_a_bound.1
    c.turn_rows.new.neighbours _ c.turn_rows.auto.neighbours c.turn_rows.ensures.codes_after
    c.turn_rows-2.new.neighbours _ c.turn_rows-2.auto.neighbours c.turn_rows-2.ensures.codes_after in record { neighbours_len_bound = whole.0; by_index = whole.1.0; rows_bound = whole.1.1 }

pub returns : goal.returns
returns c =
    let a = c.args.to_a in
    let b = c.args.to_b in record {
      same_graph = flipped-thrice a b c.args.neighbours.now c.turn_rows.new.neighbours c.turn_rows-2.new.neighbours
          c.turn_rows-3.new.neighbours c.turn_rows.ensures.same_graph c.turn_rows-2.ensures.same_graph
          c.turn_rows-3.ensures.same_graph;
      codes_after = turned-thrice a b c.args.codes.now _ _ _ c.turn_rows.ensures.codes_after c.turn_rows-2.ensures.codes_after
          c.turn_rows-3.ensures.codes_after;
    }
