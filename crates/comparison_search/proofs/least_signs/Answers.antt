-- `least_signs` meets its contract: for each qubit in turn the first signs that the equations allow, the classes kept.
use Prim.Native.Nat.{◌<◌}
use native.Mathlib.Omega.{arith}
use lib.ListN.{length}
use borrow.Author.Rules.{rules}
use Rattle.comparison.specs.internal.Equations.{equations_in}
use Rattle.comparison.proofs.LeastChosen.{signs-begin, signs-end, signs-more}
use Rattle.comparison_search.proofs.SignsFound.{signs-found, some-fit}
use Rattle.comparison_search.proofs.least_signs.Goals as goal

pub loop-q-init : goal.loop-q-init
loop-q-init c = (
  signs-begin c.args.n (equations_in c.args.table.now) c.args.classes.now c.told-classes
      c.requires.codes,
  c.sign_words-held.ensures,
)

pub unwrap-v-requires : goal.unwrap-v-requires
unwrap-v-requires c =
    let l = c.loop-q in
    let more = c.loop-q-test.true in
    let inside : l.q < length l.choice = omega (arith, c.requires.n_bound.0, more, l.invariant.0.long) in
    signs-found c.args.n c.requires.n_bound.0 (equations_in c.args.table.now) c.requires.n_bound.1
    c.requires.n_bound.2 c.args.classes.now l.q l.choice l.invariant.0 more c.least_sign.result
    (c.least_sign.ensures c.args.n l.choice more inside l.invariant.1)

pub overflow_add-choice : goal.overflow_add-choice
overflow_add-choice c =
    let l = c.loop-q in
    let more = c.loop-q-test.true in
    let inside : l.q < length l.choice = omega (arith, c.requires.n_bound.0, more, l.invariant.0.long) in
    let F = some-fit _ _ _ _ _ c.unwrap-v.ensures (c.least_sign.ensures c.args.n l.choice more inside l.invariant.1) in
    let small = F.0 in
    let code = l.invariant.0.codes l.q in
    search rules

pub loop-q-preserved : goal.loop-q-preserved
loop-q-preserved c =
    let l = c.loop-q in
    let more = c.loop-q-test.true in
    let inside : l.q < length l.choice = omega (arith, c.requires.n_bound.0, more, l.invariant.0.long) in
    let F = some-fit _ _ _ _ _ c.unwrap-v.ensures (c.least_sign.ensures c.args.n l.choice more inside l.invariant.1) in (
      signs-more c.args.n c.requires.n_bound.0 (equations_in c.args.table.now) c.requires.n_bound.1 c.requires.n_bound.2
          c.args.classes.now l.q l.choice l.invariant.0 more c.unwrap-v.result F.1,
      c.with_signs-next.ensures c.args.n l.choice more inside l.invariant.1,
    )

pub returns : goal.returns
returns c =
    let a = c.args in
    let l = c.loop-q in
    signs-end a.n (equations_in a.table.now) a.classes.now l.q l.choice l.invariant.0 c.loop-q-test.false
