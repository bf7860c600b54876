-- `expand` meets its contract: the generators of a record, in order.
use mathlib.Core.Bool.{◌||◌}
use mathlib.Core.Path.{ap₂, refl}
use Rattle.buffers.proofs.RefusalLaws.{passed_on}
use Rattle.operations.specs.Used.{UsedRecord, used_record}
use Rattle.call_readings.proofs.Records.{accepted-held, expand-accepted, expand-refused, signs-fit, x-fit, z-fit}
use Rattle.call_readings.proofs.expansions.expand.Goals as goal

pub returns-in_err-used_refusal : goal.returns-in_err-used_refusal
returns-in_err-used_refusal c =
    let a = c.args in
    let u : UsedRecord = used_record a.n a.neighbours.now a.codes.now a.used in
    let others = ap₂ ◌||◌ c.other_than.ensures (ap₂ ◌||◌ c.other_than-2.ensures c.other_than-3.ensures) in
    let R = passed_on _ _ c.from_residual.ensures.1 c.in_err-used_refusal.ensures in
    expand-refused u a.signs.now a.z.now a.x.now _ others _ R.0 R.1

pub expand_into-requires : goal.expand_into-requires
expand_into-requires c =
    let a = c.args in
    let u : UsedRecord = used_record a.n a.neighbours.now a.codes.now a.used in
    let others = ap₂ ◌||◌ c.other_than.ensures (ap₂ ◌||◌ c.other_than-2.ensures c.other_than-3.ensures) in
    let e = c.in_ok-used_refusal.ensures in
    let A = accepted-held u a.signs.now a.z.now a.x.now _ others _ e refl in
    record {
      n_bound = (A.upto, A.neighbours-length, A.codes-length);
      by_index = (A.codes-below, A.words-below);
      signs_len = (
        signs-fit u a.signs.now a.z.now a.x.now _ others _ e refl,
        z-fit u a.signs.now a.z.now a.x.now _ others _ e refl,
        x-fit u a.signs.now a.z.now a.x.now _ others _ e refl,
      );
    }

pub returns : goal.returns
returns c =
    let a = c.args in
    let u : UsedRecord = used_record a.n a.neighbours.now a.codes.now a.used in
    let others = ap₂ ◌||◌ c.other_than.ensures (ap₂ ◌||◌ c.other_than-2.ensures c.other_than-3.ensures) in
    let E = c.expand_into.ensures in
    expand-accepted u a.signs.now a.z.now a.x.now _ others _ c.in_ok-used_refusal.ensures refl _ _ _
    E.signs_after E.z_after E.x_after
