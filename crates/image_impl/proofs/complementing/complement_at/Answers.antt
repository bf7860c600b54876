-- `complement_at` meets its contract: complements at v and puts v on the list.
use Prim.Native.Nat.{◌≤◌}
use native.Mathlib.Omega.{arith}
use lib.ListN.{length}
use Rattle.image_impl.proofs.Stepping.{complemented-at}
use Rattle.image_impl.proofs.TrackedRecords.{tracked-small}
use Rattle.image_impl.proofs.complementing.complement_at.Goals as goal

pub complement_record-requires : goal.complement_record-requires
complement_record-requires c =
    (c.requires.2.unrefused, c.requires.0)

pub overflow_cast-list : goal.overflow_cast-list
overflow_cast-list c =
    let small : length c.args.neighbours.now ≤ 64 = tracked-small _ _ c.requires.2 in
    omega (arith, c.requires.0)

pub bounds-list-count : goal.bounds-list-count
bounds-list-count c =
    omega (arith, c.requires.1, c.requires.2.places)

pub single-requires : goal.single-requires
single-requires c =
    let small : length c.args.neighbours.now ≤ 64 = tracked-small _ _ c.requires.2 in
    omega (arith, c.requires.0)

pub returns : goal.returns
returns c =
    complemented-at _ _ c.args.v c.requires.0 c.requires.2 c.requires.1 _ _
    c.single.result c.complement_record.ensures
    c.single.ensures
