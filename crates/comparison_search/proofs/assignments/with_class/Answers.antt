-- `with_class` meets its contract: the words of a choice with class v put in at qubit q.
use Rattle.comparison.proofs.PlacedFours.{class-placed}
use Rattle.comparison_search.proofs.assignments.with_class.Goals as goal

pub returns : goal.returns
returns c n choice l long h =
    let a = c.args in
    let four = c.class_bits-four in
    class-placed n choice a.q a.w c.place.result l four.result a.v c.place.ensures long
    four.ensures h
