-- `compare_by` meets its contract: the least choice that carries the group of the first list onto that of the second,
-- and the complementations that turn the first reduced graph into the second.
use mathlib.Core.Bool.{◌||◌}
use mathlib.Core.Path.{ap₂, refl, sym, ◌∙◌}
use Rattle.calls.proofs.PairCounts.{at_least_one, at-most-64, counts-agree}
use Rattle.stabilizer.specs.Lists.{GeneratorList}
use Rattle.call_compare.proofs.Comparing.{choice-fits, list-fits, refused-2, refused-4, same_count}
use Rattle.buffers.proofs.Parts.{part-long}
use Rattle.call_compare.proofs.compare_by.Goals as goal

pub returns-then-pair_count : goal.returns-then-pair_count
returns-then-pair_count c =
    let a = c.args in
    let l : GeneratorList = record { n = a.n1; signs = a.signs1.now; z = a.z1.now; x = a.x1.now } in
    let m : GeneratorList = record { n = a.n2; signs = a.signs2.now; z = a.z2.now; x = a.x2.now } in
    refused-2 a.limited l m a.choice.now a.list.now a.count.now (sym c.pair_count.ensures
    ∙ c.if-pair_count.true)

pub returns-then-other_than : goal.returns-then-other_than
returns-then-other_than c =
    let a = c.args in
    let l : GeneratorList = record { n = a.n1; signs = a.signs1.now; z = a.z1.now; x = a.x1.now } in
    let m : GeneratorList = record { n = a.n2; signs = a.signs2.now; z = a.z2.now; x = a.x2.now } in
    refused-4 a.limited l m a.choice.now a.list.now a.count.now (sym c.pair_count.ensures
    ∙ c.if-pair_count.false) _
    (ap₂ ◌||◌ c.other_than.ensures c.other_than-2.ensures) c.if-other_than.true

pub slice_bounds-neighbours1-end : goal.slice_bounds-neighbours1-end
slice_bounds-neighbours1-end c =
    let a = c.args in
    let l : GeneratorList = record { n = a.n1; signs = a.signs1.now; z = a.z1.now; x = a.x1.now } in
    let m : GeneratorList = record { n = a.n2; signs = a.signs2.now; z = a.z2.now; x = a.x2.now } in
    at-most-64 l m (sym c.pair_count.ensures ∙ c.if-pair_count.false)

pub slice_bounds-compare_lists-end : goal.slice_bounds-compare_lists-end
slice_bounds-compare_lists-end c =
    let a = c.args in
    let l : GeneratorList = record { n = a.n1; signs = a.signs1.now; z = a.z1.now; x = a.x1.now } in
    let m : GeneratorList = record { n = a.n2; signs = a.signs2.now; z = a.z2.now; x = a.x2.now } in
    sym (part-long _ _ (at-most-64 l m (sym c.pair_count.ensures ∙ c.if-pair_count.false)) refl)

pub slice_bounds-codes1-end : goal.slice_bounds-codes1-end
slice_bounds-codes1-end c =
    let a = c.args in
    let l : GeneratorList = record { n = a.n1; signs = a.signs1.now; z = a.z1.now; x = a.x1.now } in
    let m : GeneratorList = record { n = a.n2; signs = a.signs2.now; z = a.z2.now; x = a.x2.now } in
    at-most-64 l m (sym c.pair_count.ensures ∙ c.if-pair_count.false)

pub slice_bounds-compare_lists-end-2 : goal.slice_bounds-compare_lists-end-2
slice_bounds-compare_lists-end-2 c =
    let a = c.args in
    let l : GeneratorList = record { n = a.n1; signs = a.signs1.now; z = a.z1.now; x = a.x1.now } in
    let m : GeneratorList = record { n = a.n2; signs = a.signs2.now; z = a.z2.now; x = a.x2.now } in
    sym (part-long _ _ (at-most-64 l m (sym c.pair_count.ensures ∙ c.if-pair_count.false)) refl)

pub slice_bounds-neighbours2-end : goal.slice_bounds-neighbours2-end
slice_bounds-neighbours2-end c =
    let a = c.args in
    let l : GeneratorList = record { n = a.n1; signs = a.signs1.now; z = a.z1.now; x = a.x1.now } in
    let m : GeneratorList = record { n = a.n2; signs = a.signs2.now; z = a.z2.now; x = a.x2.now } in
    at-most-64 l m (sym c.pair_count.ensures ∙ c.if-pair_count.false)

pub slice_bounds-compare_lists-end-3 : goal.slice_bounds-compare_lists-end-3
slice_bounds-compare_lists-end-3 c =
    let a = c.args in
    let l : GeneratorList = record { n = a.n1; signs = a.signs1.now; z = a.z1.now; x = a.x1.now } in
    let m : GeneratorList = record { n = a.n2; signs = a.signs2.now; z = a.z2.now; x = a.x2.now } in
    sym (part-long _ _ (at-most-64 l m (sym c.pair_count.ensures ∙ c.if-pair_count.false)) refl)

pub slice_bounds-codes2-end : goal.slice_bounds-codes2-end
slice_bounds-codes2-end c =
    let a = c.args in
    let l : GeneratorList = record { n = a.n1; signs = a.signs1.now; z = a.z1.now; x = a.x1.now } in
    let m : GeneratorList = record { n = a.n2; signs = a.signs2.now; z = a.z2.now; x = a.x2.now } in
    at-most-64 l m (sym c.pair_count.ensures ∙ c.if-pair_count.false)

pub slice_bounds-compare_lists-end-4 : goal.slice_bounds-compare_lists-end-4
slice_bounds-compare_lists-end-4 c =
    let a = c.args in
    let l : GeneratorList = record { n = a.n1; signs = a.signs1.now; z = a.z1.now; x = a.x1.now } in
    let m : GeneratorList = record { n = a.n2; signs = a.signs2.now; z = a.z2.now; x = a.x2.now } in
    sym (part-long _ _ (at-most-64 l m (sym c.pair_count.ensures ∙ c.if-pair_count.false)) refl)

pub compare_lists-requires : goal.compare_lists-requires
compare_lists-requires c =
    let a = c.args in
    let l : GeneratorList = record { n = a.n1; signs = a.signs1.now; z = a.z1.now; x = a.x1.now } in
    let m : GeneratorList = record { n = a.n2; signs = a.signs2.now; z = a.z2.now; x = a.x2.now } in
    let few = at-most-64 l m (sym c.pair_count.ensures ∙ c.if-pair_count.false) in record {
      le_n = (
        at_least_one l m (sym c.pair_count.ensures
            ∙ c.if-pair_count.false),
        few,
        choice-fits a.limited l m a.choice.now a.list.now a.count.now (sym c.pair_count.ensures
            ∙ c.if-pair_count.false) _ (ap₂ ◌||◌ c.other_than.ensures c.other_than-2.ensures)
            c.if-other_than.false,
        list-fits a.limited l m a.choice.now a.list.now a.count.now (sym c.pair_count.ensures
            ∙ c.if-pair_count.false) _ (ap₂ ◌||◌ c.other_than.ensures c.other_than-2.ensures)
            c.if-other_than.false,
      );
      neighbours1_len = (part-long _ _ few refl, part-long _ _ few refl, part-long _ _ few refl, part-long _ _ few refl);
    }

pub returns : goal.returns
returns c =
    let a = c.args in
    let l : GeneratorList = record { n = a.n1; signs = a.signs1.now; z = a.z1.now; x = a.x1.now } in
    let m : GeneratorList = record { n = a.n2; signs = a.signs2.now; z = a.z2.now; x = a.x2.now } in
    same_count a.limited a.n1 a.n2
    (counts-agree l m (sym c.pair_count.ensures
    ∙ c.if-pair_count.false))
    a.signs1.now a.z1.now a.x1.now a.signs2.now a.z2.now a.x2.now a.choice.now
    a.list.now a.count.now _ _ _ _ c.compare_lists.ensures
