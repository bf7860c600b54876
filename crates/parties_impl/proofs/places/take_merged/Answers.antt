-- `take_merged` meets its contract: a party's vertices as a place of the store has them, put into a record.
use Rattle.parties_impl.proofs.Moving.{taken_at}
use Rattle.parties_impl.proofs.places.take_merged.Goals as goal

pub returns : goal.returns
returns c =
    let a = c.args in
    taken_at a.i a.own a.neighbours.now a.codes.now a.held_neighbours.now a.held_codes.now _ _
    c.merge.ensures.0 c.merge.ensures.1
