-- `class_rows` meets its contract: the equations of one generator of the first group with all of the second.
use mathlib.Core.Path.{ap₂, ◌∙◌}
use Rattle.comparison.specs.internal.Equations.{class_equation, equation_of, equations_in}
use Rattle.comparison.specs.internal.Setting.{generators_in}
use Rattle.comparison.proofs.EquationTables.{class-more, class-row}
use Rattle.comparison_search.proofs.tables.class_rows.Goals as goal

pub loop-j-init : goal.loop-j-init
loop-j-init c = (c.requires.1, (λ first i e T. T))

pub loop-j-preserved : goal.loop-j-preserved
loop-j-preserved c =
    let a = c.args in
    let l = c.loop-j in
    let more = c.loop-j-test.true in
    let e = c.class_equation-e in
    let h = c.generator_at-h in (
      c.insert.ensures.triangular,
      (λ first i eg T. class-more a.n first (generators_in a.second.now) i l.j more (equations_in l.table)
          (equation_of e.result) _ (l.invariant.1 first i eg T)
          (e.ensures ∙ ap₂ class_equation eg h.ensures) c.insert.ensures),
    )

pub returns : goal.returns
returns c =
    let a = c.args in
    let l = c.loop-j in
    λ first i eg T. class-row a.n first (generators_in a.second.now) i l.j c.loop-j-test.false
    (equations_in l.table)
    (l.invariant.1 first i eg T)
