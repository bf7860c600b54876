-- `class_table` meets its contract: the class equations put into an empty table.
use mathlib.Core.Path.{subst}
use Prim.Native.Nat.{zero-le}
use native.Mathlib.Nat.{le_antisymm}
use native.Mathlib.Omega.{arith}
use Rattle.comparison.specs.internal.Equations.{equations_in}
use Rattle.comparison.specs.internal.Searches.{ClassTable}
use Rattle.comparison.specs.internal.Setting.{generators_in}
use Rattle.comparison.proofs.EquationTables.{class-start}
use Rattle.comparison.proofs.TableEnds.{empty-solved, empty-triangular}
use Rattle.comparison_search.proofs.tables.class_table.Goals as goal

pub loop-i-init : goal.loop-i-init
loop-i-init c =
    let a = c.args in (
      zero-le,
      class-start a.n (generators_in a.first.now) (generators_in a.second.now) (equations_in a.table.now)
          (empty-triangular _ c.requires.1)
          (empty-solved _ c.requires.1),
    )

pub loop-i-preserved : goal.loop-i-preserved
loop-i-preserved c =
    let a = c.args in
    let l = c.loop-i in
    let G = c.generator_at-g in (
      omega (arith, c.loop-i-test.true),
      c.class_rows.ensures (generators_in a.first.now) l.i G.ensures l.invariant.1,
    )

pub returns : goal.returns
returns c =
    let a = c.args in
    let l = c.loop-i in
    subst (λ k. ClassTable a.n (generators_in a.first.now) (generators_in a.second.now) k 0
    (equations_in l.table))
    (le_antisymm l.invariant.0 c.loop-i-test.false) l.invariant.1
