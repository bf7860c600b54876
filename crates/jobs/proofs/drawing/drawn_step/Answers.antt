-- `drawn_step` meets its contract: the step that a draw gives.
use mathlib.Core.Path.{◌∙◌, ap, ap₂, sym}
use Prim.Native.Nat.{◌*◌, ◌+◌}
use native.Mathlib.Omega.{arith}
use Rattle.jobs.proofs.Shapes.{cz-on-one, cz-on-two, gate-picked, measure-picked}
use Rattle.jobs.specs.Drawn.{does}
use Rattle.jobs.specs.declared.Op.TheVariants.{Cz, Gate, Measure}
use Rattle.jobs.proofs.drawing.drawn_step.Goals as goal

pub returns-in-0 : goal.returns-in-0
returns-in-0 c =
    ap₂ (λ a v. does Gate a 0 v) c.below-a.ensures c.below.ensures
    ∙ sym (gate-picked c.args.n c.args.d c.in-0.is)

pub returns-then-a-b : goal.returns-then-a-b
returns-then-a-b c =
    let a = c.below-a.ensures in
    ap (λ a. does Gate a 0 8) a
    ∙ sym (cz-on-one c.args.n c.args.d c.in-1.is
    (sym a ∙ c.if-a-b.true ∙ c.below-b.ensures))

pub returns-else-a-b : goal.returns-else-a-b
returns-else-a-b c =
    let a = c.below-a.ensures in
    let b = c.below-b.ensures in
    ap₂ (λ a b. does Cz a b 0) a b
    ∙ sym (cz-on-two c.args.n c.args.d c.in-1.is
    (λ same. c.if-a-b.false (a ∙ same ∙ sym b)))

pub returns-in_default : goal.returns-in_default
returns-in_default c =
    let value = ap₂ (λ p o. 2 * p + o) c.below-in_default.ensures c.below-in_default-2.ensures in
    ap₂ (λ a v. does Measure a 0 v) c.below-a.ensures value
    ∙ sym (measure-picked c.args.n c.args.d (λ z. absurd (omega (arith, z))) (λ z. absurd (omega (arith, z))))
