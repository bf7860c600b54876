-- `triple_at` meets its contract: complements at j, k and j, by a pivot, and puts them on the list.
use Prim.Native.Nat.{◌+◌, ◌≤◌}
use native.Mathlib.Omega.{arith}
use lib.ListN.{length, length-set}
use Rattle.image_impl.proofs.PivotSteps.{pivoted-at, two-long}
use Rattle.image_impl.proofs.TrackedRecords.{tracked-small}
use Rattle.image_impl.proofs.complementing.triple_at.Goals as goal

pub pivot_record-requires : goal.pivot_record-requires
pivot_record-requires c = record { unrefused = c.requires.j_in_bounds.3.unrefused; j_in_bounds = (c.requires.j_in_bounds.0, c.requires.j_in_bounds.1); k_value = c.requires.k_value }

pub overflow_cast-list : goal.overflow_cast-list
overflow_cast-list c =
    let small : length c.args.neighbours.now ≤ 64 = tracked-small _ _ c.requires.j_in_bounds.3 in
    omega (arith, c.requires.j_in_bounds.0)

pub bounds-list-count : goal.bounds-list-count
bounds-list-count c =
    omega (arith, c.requires.j_in_bounds.2, c.requires.j_in_bounds.3.places)

pub overflow_cast-list-2 : goal.overflow_cast-list-2
overflow_cast-list-2 c =
    let small : length c.args.neighbours.now ≤ 64 = tracked-small _ _ c.requires.j_in_bounds.3 in
    omega (arith, c.requires.j_in_bounds.1)

pub bounds-list-count-2 : goal.bounds-list-count-2
bounds-list-count-2 c =
    omega (arith, c.requires.j_in_bounds.2, c.requires.j_in_bounds.3.places, length-set c.args.list.now c.args.at.count c.args.j)

pub overflow_cast-list-3 : goal.overflow_cast-list-3
overflow_cast-list-3 c =
    let small : length c.args.neighbours.now ≤ 64 = tracked-small _ _ c.requires.j_in_bounds.3 in
    omega (arith, c.requires.j_in_bounds.0)

pub bounds-list-count-3 : goal.bounds-list-count-3
bounds-list-count-3 c =
    let a = c.args in
    let at = a.at.count in
    omega (arith, c.requires.j_in_bounds.2, c.requires.j_in_bounds.3.places, two-long a.list.now at (at + 1) a.j a.k)

pub single-requires : goal.single-requires
single-requires c =
    let small : length c.args.neighbours.now ≤ 64 = tracked-small _ _ c.requires.j_in_bounds.3 in
    omega (arith, c.requires.j_in_bounds.0)

pub single-requires-2 : goal.single-requires-2
single-requires-2 c =
    let small : length c.args.neighbours.now ≤ 64 = tracked-small _ _ c.requires.j_in_bounds.3 in
    omega (arith, c.requires.j_in_bounds.1)

pub returns : goal.returns
returns c =
    pivoted-at _ _ c.requires.j_in_bounds.3 c.args.j c.args.k c.requires.j_in_bounds.0 c.requires.j_in_bounds.1 c.requires.k_value _ _
    c.single.ensures c.single-2.ensures c.requires.j_in_bounds.2 _ _ c.pivot_record.ensures
