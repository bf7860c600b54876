-- `add_rows` meets its contract: an equation with those equations of the table added whose last unknown is unknown l of
-- a marked qubit.
use mathlib.Core.List.{[]}
use mathlib.Core.Path.{refl, sym}
use Prim.Native.Nat.{◌*◌, ◌+◌}
use native.Mathlib.Omega.{arith}
use lib.ListN.{get_or}
use Rattle.comparison.specs.internal.Equations.{equation_of, equations_in}
use Rattle.comparison.proofs.QubitEquations.{row_at}
use Rattle.comparison_search.proofs.EquationsRows.{fewer-qubits, next-qubit, sum_more}
use Rattle.comparison_search.proofs.equations.add_rows.Goals as goal

pub loop-rest-init : goal.loop-rest-init
loop-rest-init c = (c.requires, c.ranges.marked.fits, (λ w s. refl))

pub bounds-table-q : goal.bounds-table-q
bounds-table-q c =
    let l = c.loop-rest in
    omega (
      arith,
      l.invariant.0,
      next-qubit l.rest l.invariant.1 c.loop-rest-test.true c.smallest-q.result c.smallest-q.ensures.0,
    )

pub without_smallest-rest-requires : goal.without_smallest-rest-requires
without_smallest-rest-requires c = c.loop-rest-test.true

pub loop-rest-smaller : goal.loop-rest-smaller
loop-rest-smaller c =
    let l = c.loop-rest in
    fewer-qubits l.rest l.invariant.1 c.loop-rest-test.true _
    c.without_smallest-rest.ensures

pub loop-rest-preserved : goal.loop-rest-preserved
loop-rest-preserved c =
    let a = c.args in
    let l = c.loop-rest in
    let i = 4 * c.smallest-q.result + a.l in
    let less =
    fewer-qubits l.rest l.invariant.1 c.loop-rest-test.true _
    c.without_smallest-rest.ensures in (
      l.invariant.0,
      omega (arith, less, l.invariant.1),
      sum_more (equations_in a.table.now) _ (equation_of l.left) (equation_of (get_or a.table.now i []))
          (equation_of c.add-sum.result) i l.invariant.2 (sym (row_at a.table.now i))
          c.add-sum.ensures,
    )

pub returns : goal.returns
returns c = c.loop-rest.invariant.2
