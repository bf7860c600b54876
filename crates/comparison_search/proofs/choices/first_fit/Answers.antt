-- `first_fit` meets its contract: the first number below a bound that, put in at qubit q, its equations allow.
use native.Mathlib.Nat.{le_antisymm}
use mathlib.Core.Path.{subst}
use Rattle.comparison.specs.internal.Equations.{assignment_of, equations_in}
use Rattle.comparison.specs.internal.Searches.{FirstFit}
use Rattle.comparison.proofs.FirstChoices.{none-fits, one-fits, one-missed}
use Rattle.comparison_search.proofs.choices.first_fit.Goals as goal

pub loop-v-preserved : goal.loop-v-preserved
loop-v-preserved g c A next fits =
    let a = c.args in
    let l = c.loop-v in
    let more = c.loop-v-test.true in
    one-missed A (equations_in a.table.now) a.q next a.bound l.v (l.invariant A next fits) more
    (assignment_of c.put.result) (fits l.v c.put.result more c.put.ensures)
    c.broken.result c.broken.ensures c.if-not-broken.false

pub returns-then-not-broken : goal.returns-then-not-broken
returns-then-not-broken g c A next fits =
    let a = c.args in
    let l = c.loop-v in
    let more = c.loop-v-test.true in (
      more,
      one-fits A (equations_in a.table.now) a.q next a.bound l.v (l.invariant A next fits)
          (assignment_of c.put.result) (fits l.v c.put.result more c.put.ensures)
          c.broken.result c.broken.ensures c.if-not-broken.true,
    )

pub returns : goal.returns
returns g c A next fits =
    let a = c.args in
    let l = c.loop-v in
    let M = l.invariant A next fits in
    subst (FirstFit A (equations_in a.table.now) a.q next a.bound) (le_antisymm M.upto c.loop-v-test.false)
    (none-fits A (equations_in a.table.now) a.q next a.bound l.v M c.loop-v-test.false)
