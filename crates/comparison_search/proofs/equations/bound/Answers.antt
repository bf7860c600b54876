-- `bound` meets its contract: the number after that of the last unknown; 0 where there is none.
use mathlib.Core.Path.{sym, ◌∙◌}
use Prim.Native.Nat.{zero-le}
use native.Mathlib.Omega.{arith}
use Rattle.comparison.specs.internal.Equations.{equation_of}
use Rattle.comparison.proofs.LastUnknowns.{bound-a, bound-b, bound-c, bound-d, bound-none}
use Rattle.comparison_search.proofs.equations.bound.Goals as goal

pub returns-then-s-eq0 : goal.returns-then-s-eq0
returns-then-s-eq0 c =
    let t = c.size-s in
    (zero-le, bound-none (equation_of c.args.e) t.result t.ensures.1 c.if-s-eq0.true)

pub returns-then-has : goal.returns-then-has
returns-then-has c =
    let t = c.size-s in
    let e = equation_of c.args.e in (
      omega (arith, t.ensures.0),
      bound-d e t.result t.ensures.1 c.if-s-eq0.false
          (sym c.has.ensures ∙ c.if-has.true),
    )

pub returns-then-has-2 : goal.returns-then-has-2
returns-then-has-2 c =
    let t = c.size-s in
    let e = equation_of c.args.e in (
      omega (arith, t.ensures.0),
      bound-c e t.result t.ensures.1 c.if-s-eq0.false
          (sym c.has.ensures ∙ c.if-has.false)
          (sym c.has-2.ensures ∙ c.if-has-2.true),
    )

pub returns-then-has-3 : goal.returns-then-has-3
returns-then-has-3 c =
    let t = c.size-s in
    let e = equation_of c.args.e in (
      omega (arith, t.ensures.0),
      bound-b e t.result t.ensures.1 c.if-s-eq0.false
          (sym c.has.ensures ∙ c.if-has.false)
          (sym c.has-2.ensures ∙ c.if-has-2.false)
          (sym c.has-3.ensures ∙ c.if-has-3.true),
    )

pub returns : goal.returns
returns c =
    let t = c.size-s in
    let e = equation_of c.args.e in (
      omega (arith, t.ensures.0),
      bound-a e t.result t.ensures.1 c.if-s-eq0.false
          (sym c.has.ensures ∙ c.if-has.false)
          (sym c.has-2.ensures ∙ c.if-has-2.false)
          (sym c.has-3.ensures ∙ c.if-has-3.false),
    )
