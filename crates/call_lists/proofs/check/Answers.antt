-- `check` meets its contract: lines 2, 4, 5, 6, 9 and 10 of a generator list.
use mathlib.Core.Bool.{false, not}
use mathlib.Core.Path.{ap, refl, ◌∙◌}
use borrow.Author.Tests.{not-false, not-true}
use Rattle.buffers.proofs.Calling.{refused}
use Rattle.buffers.proofs.RefusalLaws.{passed_on}
use Rattle.stabilizer.specs.Lists.{GeneratorList}
use Rattle.stabilizer_impl.proofs.Letters.{list-dependent}
use Rattle.call_lists.proofs.Lists.{accepted-last, reducible, refused-early, refused-last, rows-within}
use Rattle.call_lists.proofs.check.Goals as goal

pub returns-in_err-early_refusal : goal.returns-in_err-early_refusal
returns-in_err-early_refusal c =
    let a = c.args in
    let l : GeneratorList = record { n = a.n; signs = a.signs.now; z = a.z.now; x = a.x.now } in
    let R = passed_on _ _ c.from_residual.ensures.1 c.in_err-early_refusal.ensures in
    refused _ (refused-early l false _ R.0 R.1) R.1 tt

pub independent-requires : goal.independent-requires
independent-requires c =
    let a = c.args in
    let l : GeneratorList = record { n = a.n; signs = a.signs.now; z = a.z.now; x = a.x.now } in
    let R = reducible l false _ c.in_ok-early_refusal.ensures refl in
    record {
      n_bound = (R.upto, R.z-length, R.x-length);
      by_index = rows-within l false _ c.in_ok-early_refusal.ensures refl;
    }

pub returns-then-not-independent : goal.returns-then-not-independent
returns-then-not-independent c =
    let a = c.args in
    let l : GeneratorList = record { n = a.n; signs = a.signs.now; z = a.z.now; x = a.x.now } in
    record {
      number = refused-last l false _ c.in_ok-early_refusal.ensures refl _
          (c.independent.ensures ∙ ap not (list-dependent l)) (not-true _ c.if-not-independent.true-raw);
      held = tt;
    }

pub returns : goal.returns
returns c =
    let a = c.args in
    let l : GeneratorList = record { n = a.n; signs = a.signs.now; z = a.z.now; x = a.x.now } in
    record {
      number = accepted-last l false _ c.in_ok-early_refusal.ensures refl _
          (c.independent.ensures ∙ ap not (list-dependent l)) (not-false _ c.if-not-independent.false-raw);
      held = tt;
    }
