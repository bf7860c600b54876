-- `compare_copies` meets its contract: the comparison of two records on n qubits, with room for their reduced copies.
use mathlib.Core.Path.{sym, ◌∙◌}
use Rattle.call_compare.proofs.RecordPairs.{lent-accepted, lent-in, lent-reduced, reduced-fits}
use Rattle.call_compare.proofs.records.compare_copies.Goals as goal

pub reduce_copy-requires : goal.reduce_copy-requires
reduce_copy-requires c =
    let a = c.args in
    let long = (lent-accepted a.n a.neighbours1.now a.codes1.now c.requires.unrefused).neighbours-length in record { unrefused = lent-in a.n a.neighbours1.now a.codes1.now c.requires.unrefused; words_len = (c.requires.words1_len.0 ∙ sym long, c.requires.words1_len.1 ∙ sym long) }

pub reduce_copy-requires-2 : goal.reduce_copy-requires-2
reduce_copy-requires-2 c =
    let a = c.args in
    let long = (lent-accepted a.n a.neighbours2.now a.codes2.now c.requires.unrefused_2).neighbours-length in record { unrefused = lent-in a.n a.neighbours2.now a.codes2.now c.requires.unrefused_2; words_len = (c.requires.words1_len.2 ∙ sym long, c.requires.words1_len.3 ∙ sym long) }

pub compare_reduced-requires : goal.compare_reduced-requires
compare_reduced-requires c =
    let a = c.args in record { accepted_record = reduced-fits a.n a.neighbours1.now a.codes1.now c.requires.unrefused c.reduce_copy.ensures; accepted_record_2 = reduced-fits a.n a.neighbours2.now a.codes2.now c.requires.unrefused_2 c.reduce_copy-2.ensures; choice_len = (c.requires.words1_len.4, c.requires.words1_len.5) }

pub returns : goal.returns
returns c =
    let a = c.args in
    c.compare_reduced.ensures _ _
    (lent-reduced a.n a.neighbours1.now a.codes1.now c.requires.unrefused c.reduce_copy.ensures)
    (lent-reduced a.n a.neighbours2.now a.codes2.now c.requires.unrefused_2 c.reduce_copy-2.ensures)
