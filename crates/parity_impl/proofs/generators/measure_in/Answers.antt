-- `measure_in` meets its contract: a row measured that is not determined, by the generators of the record.
use mathlib.Core.Path.{refl}
use mathlib.Core.Bool.{false}
use Rattle.operations.specs.internal.InPlace.{record_in}
use Rattle.parity.proofs.ReducedLists.{change-ready, reduce-ready, reduced-written}
use Rattle.record.proofs.AcceptedRecords.{accepted-record}
use Rattle.record.specs.Accepted.{AcceptedRecord}
use Rattle.record.specs.Lent.{LentRecord}
use Rattle.parity_impl.proofs.generators.measure_in.Goals as goal

pub expand_into-requires : goal.expand_into-requires
expand_into-requires c =
    let l : LentRecord = record_in c.args.neighbours.now c.args.codes.now in
    let A : AcceptedRecord l = accepted-record l false false c.requires.unrefused.no_line in
    record {
      n_bound = (A.upto, refl, A.codes-length);
      by_index = (A.codes-below, A.words-below);
      signs_len = c.requires.signs_len;
    }

pub change-requires : goal.change-requires
change-requires c =
    let a = c.args in
    let q = c.requires in
    let E = c.expand_into.ensures in
    let l : LentRecord = record_in a.neighbours.now a.codes.now in
    let A : AcceptedRecord l = accepted-record l false false q.unrefused.no_line in
    let whole = change-ready l A a.z a.x q.z_bound.0 q.z_bound.1 q.x_value a.bit _ _ _
    E.signs_after E.z_after E.x_after _ c.first_against-g.ensures in
    record { zs_len = whole.0; by_index = whole.1 }

pub reduce_list-requires : goal.reduce_list-requires
reduce_list-requires c =
    let a = c.args in
    let q = c.requires in
    let E = c.expand_into.ensures in
    let l : LentRecord = record_in a.neighbours.now a.codes.now in
    let A : AcceptedRecord l = accepted-record l false false q.unrefused.no_line in
    record {
      reducible = reduce-ready l A a.z a.x q.z_bound.0 q.z_bound.1 q.x_value a.bit _ _ _
          E.signs_after E.z_after E.x_after _ c.first_against-g.ensures _ _ _ c.change.ensures;
      neighbours_len = (refl, A.codes-length);
    }

pub returns : goal.returns
returns c =
    let a = c.args in
    let q = c.requires in
    let E = c.expand_into.ensures in
    let R = c.reduce_list.ensures in
    let l : LentRecord = record_in a.neighbours.now a.codes.now in
    let A : AcceptedRecord l = accepted-record l false false q.unrefused.no_line in
    let w = reduced-written l A a.z a.x q.z_bound.0 q.z_bound.1 q.x_value a.bit _ _ _
    E.signs_after E.z_after E.x_after _ c.first_against-g.ensures _ _ _ c.change.ensures _ _ _ _ _
    R.value R.neighbours_after R.codes_after in
    record { neighbours = w.0; numbers = w.1 }
