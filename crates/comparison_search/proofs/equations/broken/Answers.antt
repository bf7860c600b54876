-- `broken` meets its contract: whether an equation of qubit q fails: one whose last unknown is of qubit q.
use Prim.Native.Nat.{◌*◌, ◌+◌, ◌≤◌}
use native.Mathlib.Omega.{arith}
use mathlib.Core.Bool.{false, true}
use mathlib.Core.Path.{refl, ◌≡◌}
use lib.ListN.{length}
use borrow.Author.Rules.{rules}
use Rattle.std.proofs.lemmas.Iterator.{YieldsList-from_slice, cases_from_any}
use Rattle.comparison.specs.internal.Equations.{assignment_of, equation_of, fails}
use Rattle.comparison_search.proofs.RowsTested.{rows-tested}
use Rattle.comparison_search.proofs.equations.broken.Goals as goal

pub returns : goal.returns
returns c =
    let a = c.args in
    let long : 4 * a.q + 4 ≤ length a.table.now = omega (arith, c.told-table) in
    rows-tested a.table.now a.q (assignment_of a.w) c.iter.result.rest.now c.iter.ensures.rest long c.any.result
    (cases_from_any _ _ _ (λ e. true ≡ fails (equation_of e) (assignment_of a.w))
    (λ e. false ≡ fails (equation_of e) (assignment_of a.w)) c.any.ensures.ran (YieldsList-from_slice _ refl) (λ x f k. search rules) (λ x f k. search rules))
