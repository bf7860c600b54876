-- `reduce` meets its contract: the reduced record of a generator list.
use mathlib.Core.Bool.{◌||◌}
use mathlib.Core.Path.{ap₂, refl}
use Rattle.buffers.proofs.RefusalLaws.{passed_on}
use Rattle.stabilizer.specs.Lists.{GeneratorList}
use Rattle.call_lists.proofs.Lists.{
  codes-fit,
  neighbours-fit,
  reduce-accepted,
  reduce-dependent,
  reduce-refused,
  reducible,
}
use Rattle.call_lists.proofs.reduce.Goals as goal

pub returns-in_err-early_refusal : goal.returns-in_err-early_refusal
returns-in_err-early_refusal c =
    let a = c.args in
    let l : GeneratorList = record { n = a.n; signs = a.signs.now; z = a.z.now; x = a.x.now } in
    let R = passed_on _ _ c.from_residual.ensures.1 c.in_err-early_refusal.ensures in
    reduce-refused l a.neighbours.now a.codes.now _
    (ap₂ ◌||◌ c.other_than.ensures c.other_than-2.ensures) _ R.0 R.1

pub reduce_list-requires : goal.reduce_list-requires
reduce_list-requires c =
    let a = c.args in
    let l : GeneratorList = record { n = a.n; signs = a.signs.now; z = a.z.now; x = a.x.now } in
    record {
      reducible = reducible l _ _ c.in_ok-early_refusal.ensures refl;
      neighbours_len = (
        neighbours-fit l a.neighbours.now a.codes.now _
            (ap₂ ◌||◌ c.other_than.ensures c.other_than-2.ensures) _ c.in_ok-early_refusal.ensures refl,
        codes-fit l a.neighbours.now a.codes.now _
            (ap₂ ◌||◌ c.other_than.ensures c.other_than-2.ensures) _ c.in_ok-early_refusal.ensures refl,
      );
    }

pub returns-then-reduce_list : goal.returns-then-reduce_list
returns-then-reduce_list c =
    let a = c.args in
    let l : GeneratorList = record { n = a.n; signs = a.signs.now; z = a.z.now; x = a.x.now } in
    reduce-accepted l a.neighbours.now a.codes.now _
    (ap₂ ◌||◌ c.other_than.ensures c.other_than-2.ensures) _ c.in_ok-early_refusal.ensures
    refl _ c.reduce_list.ensures.value _ _
    c.reduce_list.ensures.neighbours_after
    c.reduce_list.ensures.codes_after c.if-reduce_list.true

pub returns-else-reduce_list : goal.returns-else-reduce_list
returns-else-reduce_list c =
    let a = c.args in
    let l : GeneratorList = record { n = a.n; signs = a.signs.now; z = a.z.now; x = a.x.now } in
    reduce-dependent l a.neighbours.now a.codes.now _
    (ap₂ ◌||◌ c.other_than.ensures c.other_than-2.ensures) _ c.in_ok-early_refusal.ensures
    refl _ c.reduce_list.ensures.value _ _
    c.reduce_list.ensures.neighbours_after
    c.reduce_list.ensures.codes_after c.if-reduce_list.false
