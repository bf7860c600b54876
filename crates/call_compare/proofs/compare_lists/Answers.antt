-- `compare_lists` meets its contract: the comparison of two lists on n qubits, with room for their reduced records.
use mathlib.Core.Path.{refl}
use Rattle.buffers.proofs.RefusalLaws.{passed_on}
use Rattle.call_compare.proofs.Comparing.{compare-decided, compare-refused, first-accepted, second-accepted}
use Rattle.call_compare.proofs.compare_lists.Goals as goal

pub returns-in_err-earlier_refusal : goal.returns-in_err-earlier_refusal
returns-in_err-earlier_refusal c =
    let a = c.args in
    let R = passed_on _ _ c.from_residual.ensures.1 c.in_err-earlier_refusal.ensures in
    compare-refused a.limited a.n a.signs1.now a.z1.now a.x1.now a.signs2.now a.z2.now
    a.x2.now
    a.choice.now a.list.now c.requires.le_n.0 c.requires.le_n.1 c.requires.le_n.2 c.requires.le_n.3
    a.neighbours1.now a.codes1.now a.neighbours2.now a.codes2.now _ _ _ _
    c.requires.neighbours1_len.0 c.requires.neighbours1_len.1 c.requires.neighbours1_len.2 c.requires.neighbours1_len.3 _ _ _
    c.reduce-first.ensures c.reduce-second.ensures R.0 a.count.now R.1

pub compare_reduced-requires : goal.compare_reduced-requires
compare_reduced-requires c =
    let a = c.args in
    record {
      accepted_record = first-accepted a.limited a.n a.signs1.now a.z1.now a.x1.now a.signs2.now
          a.z2.now a.x2.now
          a.choice.now a.list.now c.requires.le_n.0 c.requires.le_n.1 c.requires.le_n.2 c.requires.le_n.3
          a.neighbours1.now a.codes1.now a.neighbours2.now a.codes2.now _ _ _ _
          c.requires.neighbours1_len.0 c.requires.neighbours1_len.1 c.requires.neighbours1_len.2 c.requires.neighbours1_len.3 _ _ _
          c.reduce-first.ensures c.reduce-second.ensures c.in_ok-earlier_refusal.ensures refl;
      accepted_record_2 = second-accepted a.limited a.n a.signs1.now a.z1.now a.x1.now a.signs2.now a.z2.now
          a.x2.now
          a.choice.now a.list.now c.requires.le_n.0 c.requires.le_n.1 c.requires.le_n.2 c.requires.le_n.3
          a.neighbours1.now a.codes1.now a.neighbours2.now a.codes2.now _ _ _ _
          c.requires.neighbours1_len.0 c.requires.neighbours1_len.1 c.requires.neighbours1_len.2 c.requires.neighbours1_len.3 _ _ _
          c.reduce-first.ensures c.reduce-second.ensures c.in_ok-earlier_refusal.ensures refl;
      choice_len = (c.requires.le_n.2, c.requires.le_n.3);
    }

pub returns : goal.returns
returns c =
    let a = c.args in
    compare-decided a.limited a.n a.signs1.now a.z1.now a.x1.now a.signs2.now a.z2.now
    a.x2.now
    a.choice.now a.list.now c.requires.le_n.0 c.requires.le_n.1 c.requires.le_n.2 c.requires.le_n.3
    a.neighbours1.now a.codes1.now a.neighbours2.now a.codes2.now _ _ _ _
    c.requires.neighbours1_len.0 c.requires.neighbours1_len.1 c.requires.neighbours1_len.2 c.requires.neighbours1_len.3 _ _ _
    c.reduce-first.ensures c.reduce-second.ensures c.in_ok-earlier_refusal.ensures refl
    a.count.now _ _ _ _ c.compare_reduced.ensures
