-- `store` meets its contract: stores an equation, or a sum of it with stored ones, at the place of its last unknown,
-- or nothing.
use mathlib.Core.List.{[]}
use mathlib.Core.Path.{subst, sym}
use Prim.Native.Nat.{◌-◌}
use native.Mathlib.Omega.{arith}
use lib.ListN.{get_or}
use Rattle.comparison.specs.internal.Equations.{Inserted, equation_of, equations_in}
use Rattle.comparison.proofs.Insertion.{Inserting, insert-added, insert-from, insert-nothing, insert-start, insert-stored}
use Rattle.comparison.proofs.LastUnknowns.{bound-least}
use Rattle.comparison.proofs.QubitEquations.{row_at, row-set}
use Rattle.comparison_search.proofs.equations.store.Goals as goal

pub loop-i-init : goal.loop-i-init
loop-i-init c =
    let B = c.bound-i.ensures.1 in (
      c.bound-i.ensures.0,
      B,
      insert-start (equations_in c.args.table.now) (equation_of c.args.e) c.bound-i.result B.above,
    )

pub bounds-table-i : goal.bounds-table-i
bounds-table-i c = omega (arith, c.loop-i.invariant.0, c.loop-i-test.true)

pub bounds-table-i-then-empty : goal.bounds-table-i-then-empty
bounds-table-i-then-empty c = omega (arith, c.loop-i.invariant.0, c.loop-i-test.true)

pub returns-then-empty : goal.returns-then-empty
returns-then-empty c =
    let l = c.loop-i in
    let more = c.loop-i-test.true in
    let p = get_or l.table (l.i - 1) [] in
    subst (Inserted (equations_in c.args.table.now) (equation_of c.args.e))
    (sym (row-set l.table (l.i - 1) l.left))
    (insert-stored (equations_in c.args.table.now) (equation_of c.args.e) c.requires (equations_in l.table)
    (equation_of l.left) l.i more l.invariant.2 (omega (arith, l.invariant.0, more)) (l.invariant.1.last more)
    (equation_of p)
    (sym (row_at l.table (l.i - 1)))
    (c.empty.ensures.j_value c.if-empty.true))

pub loop-i-smaller : goal.loop-i-smaller
loop-i-smaller c =
    let l = c.loop-i in
    let more = c.loop-i-test.true in
    let p = get_or l.table (l.i - 1) [] in
    let S =
    insert-added (equations_in c.args.table.now) (equation_of c.args.e) c.requires (equations_in l.table)
    (equation_of l.left) l.i more l.invariant.2 (l.invariant.1.last more) (equation_of p)
    (equation_of c.add-sum.result)
    (sym (row_at l.table (l.i - 1)))
    (c.empty.ensures.fact c.if-empty.false) c.add-sum.ensures in
    let lower =
    bound-least (equation_of c.add-sum.result) c.bound-i-in-loop-i.result (l.i - 1) c.bound-i-in-loop-i.ensures.1 S.above
    in
    omega (arith, lower, more)

pub loop-i-preserved : goal.loop-i-preserved
loop-i-preserved c =
    let l = c.loop-i in
    let more = c.loop-i-test.true in
    let p = get_or l.table (l.i - 1) [] in
    let S =
    insert-added (equations_in c.args.table.now) (equation_of c.args.e) c.requires (equations_in l.table)
    (equation_of l.left) l.i more l.invariant.2 (l.invariant.1.last more) (equation_of p)
    (equation_of c.add-sum.result)
    (sym (row_at l.table (l.i - 1)))
    (c.empty.ensures.fact c.if-empty.false) c.add-sum.ensures in
    let lower =
    bound-least (equation_of c.add-sum.result) c.bound-i-in-loop-i.result (l.i - 1) c.bound-i-in-loop-i.ensures.1 S.above
    in (
      omega (arith, lower, l.invariant.0),
      c.bound-i-in-loop-i.ensures.1,
      insert-from S c.bound-i-in-loop-i.result c.bound-i-in-loop-i.ensures.1.above,
    )

pub returns : goal.returns
returns c =
    let l = c.loop-i in
    insert-nothing (equations_in c.args.table.now) (equation_of c.args.e) c.requires (equations_in l.table)
    (equation_of l.left)
    (subst (Inserting (equations_in c.args.table.now) (equation_of c.args.e) (equations_in l.table)
    (equation_of l.left))
    (omega (arith, c.loop-i-test.false)) l.invariant.2)
