-- `compare_records_by` meets its contract: the least choice that carries the group of the first record onto that of the
-- second, and the complementations that turn the first reduced graph into the second.
use mathlib.Core.Bool.{◌||◌}
use mathlib.Core.Path.{ap₂, refl, sym, ◌∙◌}
use Rattle.buffers.proofs.Parts.{part-long}
use Rattle.buffers.proofs.RefusalLaws.{passed_on}
use Rattle.record.specs.Lent.{LentRecord, lent_record}
use Rattle.call_compare.proofs.RecordPairs.{choice-fits, compare-decided, compare-refused, few, first-unrefused, list-fits, refused-2, second-unrefused}
use Rattle.call_compare.proofs.records.compare_records_by.Goals as goal

pub returns-then-pair_count : goal.returns-then-pair_count
returns-then-pair_count c =
    let a = c.args in
    let l : LentRecord = lent_record a.n1 a.neighbours1.now a.codes1.now in
    let m : LentRecord = lent_record a.n2 a.neighbours2.now a.codes2.now in
    refused-2 a.limited l m a.choice.now a.list.now a.count.now
    (sym c.pair_count.ensures ∙ c.if-pair_count.true)

pub returns-in_err-earlier_refusal : goal.returns-in_err-earlier_refusal
returns-in_err-earlier_refusal c =
    let a = c.args in
    let R = passed_on _ _ c.from_residual.ensures.1 c.in_err-earlier_refusal.ensures in
    let l : LentRecord = lent_record a.n1 a.neighbours1.now a.codes1.now in
    let m : LentRecord = lent_record a.n2 a.neighbours2.now a.codes2.now in
    compare-refused a.limited l m a.choice.now a.list.now (sym c.pair_count.ensures ∙ c.if-pair_count.false)
    (ap₂ ◌||◌ c.other_than.ensures c.other_than-2.ensures) c.record_refusal-first.ensures
    c.record_refusal-second.ensures R.0 a.count.now R.1

-- behind the checks
pub slice_bounds-words1-end : goal.slice_bounds-words1-end
slice_bounds-words1-end c =
    let a = c.args in
    let l : LentRecord = lent_record a.n1 a.neighbours1.now a.codes1.now in
    let m : LentRecord = lent_record a.n2 a.neighbours2.now a.codes2.now in
    few a.limited l m a.choice.now a.list.now (sym c.pair_count.ensures ∙ c.if-pair_count.false)
    (ap₂ ◌||◌ c.other_than.ensures c.other_than-2.ensures) c.record_refusal-first.ensures
    c.record_refusal-second.ensures c.in_ok-earlier_refusal.ensures refl

pub compare_copies-requires : goal.compare_copies-requires
compare_copies-requires c =
    let a = c.args in
    let l : LentRecord = lent_record a.n1 a.neighbours1.now a.codes1.now in
    let m : LentRecord = lent_record a.n2 a.neighbours2.now a.codes2.now in
    let n-few = few a.limited l m a.choice.now a.list.now (sym c.pair_count.ensures ∙ c.if-pair_count.false)
    (ap₂ ◌||◌ c.other_than.ensures c.other_than-2.ensures) c.record_refusal-first.ensures
    c.record_refusal-second.ensures c.in_ok-earlier_refusal.ensures refl in record {
      unrefused = first-unrefused a.limited l m a.choice.now a.list.now (sym c.pair_count.ensures ∙ c.if-pair_count.false)
          (ap₂ ◌||◌ c.other_than.ensures c.other_than-2.ensures) c.record_refusal-first.ensures
          c.record_refusal-second.ensures c.in_ok-earlier_refusal.ensures refl;
      unrefused_2 = second-unrefused a.limited l m a.choice.now a.list.now (sym c.pair_count.ensures ∙ c.if-pair_count.false)
          (ap₂ ◌||◌ c.other_than.ensures c.other_than-2.ensures) c.record_refusal-first.ensures
          c.record_refusal-second.ensures c.in_ok-earlier_refusal.ensures refl;
      words1_len = (
        part-long _ _ n-few refl,
        part-long _ _ n-few refl,
        part-long _ _ n-few refl,
        part-long _ _ n-few refl,
        choice-fits a.limited l m a.choice.now a.list.now (sym c.pair_count.ensures ∙ c.if-pair_count.false)
            (ap₂ ◌||◌ c.other_than.ensures c.other_than-2.ensures) c.record_refusal-first.ensures
            c.record_refusal-second.ensures c.in_ok-earlier_refusal.ensures refl,
        list-fits a.limited l m a.choice.now a.list.now (sym c.pair_count.ensures ∙ c.if-pair_count.false)
            (ap₂ ◌||◌ c.other_than.ensures c.other_than-2.ensures) c.record_refusal-first.ensures
            c.record_refusal-second.ensures c.in_ok-earlier_refusal.ensures refl,
      );
    }

pub returns : goal.returns
returns c =
    let a = c.args in
    let l : LentRecord = lent_record a.n1 a.neighbours1.now a.codes1.now in
    let m : LentRecord = lent_record a.n2 a.neighbours2.now a.codes2.now in
    compare-decided a.limited l m a.choice.now a.list.now (sym c.pair_count.ensures ∙ c.if-pair_count.false)
    (ap₂ ◌||◌ c.other_than.ensures c.other_than-2.ensures) c.record_refusal-first.ensures
    c.record_refusal-second.ensures c.in_ok-earlier_refusal.ensures refl
    c.compare_copies.ensures
