-- `with_signs` meets its contract: the words of a choice with signs v put in at qubit q.
use Rattle.comparison.proofs.PlacedFours.{sign-placed}
use Rattle.comparison_search.proofs.assignments.with_signs.Goals as goal

pub returns : goal.returns
returns c n choice l long h =
    let a = c.args in
    sign-placed n choice a.q a.w c.place_signs.result l a.v c.place_signs.ensures long h
