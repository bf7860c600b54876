-- `clear` meets its contract: equation i added to those after it, up to an end, that have unknown i.
use mathlib.Core.List.{[]}
use mathlib.Core.Path.{ap, subst, sym, ◌∙◌}
use Prim.Native.Nat.{◌+◌}
use native.Mathlib.Omega.{arith}
use lib.ListN.{get_or}
use Rattle.comparison.specs.internal.Equations.{equation_of, equations_in}
use Rattle.comparison.proofs.QubitEquations.{row_at, row-set}
use Rattle.comparison_search.proofs.EquationsRows.{Clearing, clear-added, clear_kept, clear-start}
use Rattle.comparison_search.proofs.equations.clear.Goals as goal
use Rattle.comparison_search.proofs.equations.clear.Goals.{else-has_unknown, then-has_unknown}

pub loop-k-init : goal.loop-k-init
loop-k-init c = (
  c.requires.1,
  c.requires.2,
  clear-start (equations_in c.args.table.now) c.requires.0 c.args.i _
      (sym (row_at c.args.table.now c.args.i)),
)

pub loop-k-smaller : goal.loop-k-smaller
loop-k-smaller c = omega (arith, c.loop-k-test.true)

pub loop-k-preserved : goal.loop-k-preserved
loop-k-preserved c =
    let a = c.args in
    let l = c.loop-k in
    let more = c.loop-k-test.true in
    let first = equations_in a.table.now in
    let p = equation_of (get_or a.table.now a.i []) in
    let e = equation_of (get_or l.table l.k []) in (
      l.invariant.0,
      l.invariant.1,
      elim c.if-has_unknown.branch [
        | then-has_unknown w ↦ subst (λ t. Clearing first t a.i (l.k + 1) p)
            (sym (ap equations_in w.table-is ∙ row-set l.table l.k w.add.result))
            (clear-added first (equations_in l.table) a.i l.k p l.invariant.2 (omega (arith, more, l.invariant.1)) e
            (equation_of w.add.result) (sym (row_at l.table l.k))
            (sym c.has_unknown.ensures ∙ w.if-has_unknown.true) w.add.ensures)
        | else-has_unknown w ↦ subst (λ t. Clearing first (equations_in t) a.i (l.k + 1) p) (sym w.table-is)
            (clear_kept first (equations_in l.table) a.i l.k p l.invariant.2)
      ],
    )

pub returns : goal.returns
returns c = c.loop-k.invariant.2.so_far
