-- `expand_into` meets its contract: expansion into three lent buffers.
use mathlib.Core.Path.{◌∙◌}
use Rattle.record.specs.Lent.{held_rows, LentRecord, lent_record}
use Rattle.record.proofs.ExpandedBuffers.{all_made, one-made}
use Rattle.record.proofs.ExpandedRows.{held-row, held-within}
use Rattle.record_impl.proofs.expansion.expand_into.Goals as goal

pub loop-j-preserved : goal.loop-j-preserved
loop-j-preserved c =
    let a = c.args in
    let l : LentRecord = lent_record a.n a.neighbours.now a.codes.now in
    let g = c.expanded_row-g.result in
    let j = c.loop-j.j in
    one-made a.n (held_rows l) c.loop-j.signs c.loop-j.z c.loop-j.x j
    c.loop-j.invariant c.loop-j-test.true
    g.minus g.z g.x (c.expanded_row-g.ensures a.codes.now c.action_of-by.ensures
    ∙ held-row l c.requires.n_bound.0 c.requires.n_bound.2 j)
    (held-within l c.requires.by_index.1 j c.loop-j-test.true)
    c.sign_digit.ensures

pub returns : goal.returns
returns c =
    let a = c.args in
    let l : LentRecord = lent_record a.n a.neighbours.now a.codes.now in let whole = all_made a.n (held_rows l) c.loop-j.signs c.loop-j.z c.loop-j.x
    c.loop-j.j c.loop-j.invariant c.loop-j-test.false in record { signs_after = whole.0; z_after = whole.1.0; x_after = whole.1.1 }
