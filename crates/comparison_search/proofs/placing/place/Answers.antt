-- `place` meets its contract: the four words with the four bits of qubit q exchanged.
use Rattle.comparison.proofs.PlacedFours.{placed_by}
use Rattle.comparison_search.proofs.placing.place.Goals as goal

pub returns : goal.returns
returns c =
    let a = c.args in
    placed_by c.args.w a.q a.four c.put_bit-a.result c.put_bit-b.result c.put_bit-c.result
    c.put_bit-d.result c.has.ensures c.put_bit-a.ensures c.has-2.ensures
    c.put_bit-b.ensures c.has-3.ensures c.put_bit-c.ensures c.has-4.ensures
    c.put_bit-d.ensures
