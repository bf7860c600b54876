-- `write_record` meets its contract: writes the record of rows that have X or Y at their own place and I or Z
-- elsewhere.
use native.Mathlib.Omega.{arith}
use Rattle.buffers.proofs.Filling.{fill_end, fill_step}
use Rattle.record_reduction.proofs.Reading.{neighbour-word, vertex-number}
use Rattle.record_reduction.proofs.records.write_record.Goals as goal

pub loop-q-preserved : goal.loop-q-preserved
loop-q-preserved c =
    let L = c.loop-q in
    let a = c.args in
    let l = c.loop-q-test.true in (
      omega arith,
      fill_step _ _ _ _ _ L.invariant.1 l
          (neighbour-word a.n a.signs c.args.rows L.q l (c.requires.by_index L.q l) _
          c.put_bit.ensures),
      fill_step _ _ _ _ _ L.invariant.2 l
          (vertex-number a.n a.hadamards a.signs c.args.rows L.q l _
          c.has.ensures
          c.has-in-loop-q.ensures c.has-in-loop-q-2.ensures c.vertex_code.ensures.0),
    )

pub returns : goal.returns
returns c = let L = c.loop-q in record { neighbours_after = fill_end _ _ _ L.q L.invariant.1 c.loop-q-test.false; codes_after = fill_end _ _ _ L.q L.invariant.2 c.loop-q-test.false }
