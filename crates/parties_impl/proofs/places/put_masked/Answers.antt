-- `put_masked` meets its contract: a party's vertices alone, at a place of the store.
use Rattle.parties_impl.proofs.Moving.{put-at}
use Rattle.parties_impl.proofs.places.put_masked.Goals as goal

pub returns : goal.returns
returns c =
    let a = c.args in
    put-at a.i a.own a.neighbours.now a.codes.now a.used a.name _ a.heads.now
    a.held_neighbours.now a.held_codes.now _ _ _ c.mask_used.ensures c.put_head.ensures
    c.mask.ensures.0 c.mask.ensures.1
