-- `lines_fit` meets its contract: whether each of n lines fits.
use mathlib.Core.Path.{ap, sym, ◌∙◌}
use Prim.Native.Nat.{◌+◌}
use native.Mathlib.Nat.{zero-mul}
use native.Mathlib.Omega.{arith}
use lib.ListN.{get_or}
use Rattle.text.proofs.SizeLaws.{line-inside, next-line}
use Rattle.text.specs.Reading.{line_fits}
use Rattle.text_strings.proofs.FitLoops.{all_tested, none-tested, one-tested}
use Rattle.text_strings.proofs.form.lines_fit.Goals as goal

pub loop-init : goal.loop-init
loop-init c = (none-tested _ _, sym (zero-mul _))

pub line_fits-fit-requires : goal.line_fits-fit-requires
line_fits-fit-requires c =
    let l = c.loop in
    omega (arith, l.invariant.1, line-inside c.args.text.now c.args.n l.counter c.requires c.loop-test.true)

pub overflow_add-from-in-loop : goal.overflow_add-from-in-loop
overflow_add-from-in-loop c =
    let l = c.loop in
    omega (
      arith,
      l.invariant.1,
      line-inside c.args.text.now c.args.n l.counter c.requires c.loop-test.true,
      c.ranges,
    )

pub loop-preserved : goal.loop-preserved
loop-preserved c =
    let l = c.loop in (
      one-tested _ _ l.invariant.0 c.loop-test.true
          (c.line_fits-fit.ensures
          ∙ ap (λ k. line_fits c.args.n (λ i. get_or c.args.text.now (k + i) 0)) l.invariant.1),
      ap (λ k. k + (c.args.n + 2)) l.invariant.1 ∙ next-line c.args.n l.counter,
    )

pub returns : goal.returns
returns c = all_tested _ _ c.loop.invariant.0 c.loop-test.false
