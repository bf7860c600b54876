-- `least_classes` meets its contract: for each qubit in turn the first class that the equations allow.
use mathlib.Core.Bool.{false, true}
use mathlib.Core.Path.{refl}
use Prim.Native.Nat.{◌<◌}
use native.Mathlib.Nat.{le_refl}
use native.Mathlib.Omega.{arith}
use lib.ListN.{length}
use Rattle.comparison.specs.internal.Equations.{equations_in}
use Rattle.comparison.proofs.LeastChosen.{classes-begin, classes-end, classes-more, classes-none}
use Rattle.comparison_search.proofs.ClassesNone.{none-answered}
use Rattle.comparison_search.proofs.least_classes.Goals as goal

pub class_words-held-requires : goal.class_words-held-requires
class_words-held-requires c = (c.requires.0, (classes-begin c.args.n (equations_in c.args.table.now)).codes)

pub loop-q-init : goal.loop-q-init
loop-q-init c = (classes-begin c.args.n (equations_in c.args.table.now), c.class_words-held.ensures)

pub returns-in_err-v : goal.returns-in_err-v
returns-in_err-v c =
    let l = c.loop-q in
    let more = c.loop-q-test.true in
    let inside : l.q < length l.choice = omega (arith, c.requires.0, more, l.invariant.0.long) in
    let N = classes-none c.args.n c.requires.0 (equations_in c.args.table.now) c.requires.1 c.requires.2 l.q l.choice
    l.invariant.0 more 6 (c.in_err-v.ensures c.args.n l.choice more inside l.invariant.1) (le_refl 6) false refl in
    rw c.from_residual.ensures (none-answered _ _ _ N)

pub with_class-next-requires : goal.with_class-next-requires
with_class-next-requires c =
    let l = c.loop-q in
    let more = c.loop-q-test.true in
    let inside : l.q < length l.choice = omega (arith, c.requires.0, more, l.invariant.0.long) in
    (omega (arith, c.requires.0, more), (c.in_ok-v.ensures c.args.n l.choice more inside l.invariant.1).0)

pub loop-q-preserved : goal.loop-q-preserved
loop-q-preserved c =
    let l = c.loop-q in
    let more = c.loop-q-test.true in
    let inside : l.q < length l.choice = omega (arith, c.requires.0, more, l.invariant.0.long) in
    let F = c.in_ok-v.ensures c.args.n l.choice more inside l.invariant.1 in (
      classes-more c.args.n c.requires.0 (equations_in c.args.table.now) c.requires.1 c.requires.2 l.q l.choice
          l.invariant.0 more c.in_ok-v.v F.1 F.0,
      c.with_class-next.ensures c.args.n l.choice more inside l.invariant.1,
    )

pub returns : goal.returns
returns c =
    let a = c.args in
    let l = c.loop-q in
    classes-end a.n (equations_in a.table.now) l.q l.choice l.invariant.0 c.loop-q-test.false true refl
