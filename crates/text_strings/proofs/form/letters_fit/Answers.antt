-- `letters_fit` meets its contract: whether the n bytes behind a place are letters.
use mathlib.Core.Path.{ap, ◌∙◌}
use Prim.Native.Nat.{◌+◌}
use native.Mathlib.Numerals.{add-one}
use lib.ListN.{get_or}
use Rattle.text.specs.Reading.{is_letter}
use Rattle.text_strings.proofs.FitLoops.{all_tested, none-tested, one-tested}
use Rattle.text_strings.proofs.form.letters_fit.Goals as goal

pub loop-q-init : goal.loop-q-init
loop-q-init c = none-tested _ _

pub loop-q-preserved : goal.loop-q-preserved
loop-q-preserved c =
    let a = c.args in
    one-tested _ _ c.loop-q.invariant c.loop-q-test.true
    (c.is_letter-fit.ensures ∙ ap (λ k. is_letter (get_or a.text.now (a.from + k) 0)) (add-one c.loop-q.q))

pub returns : goal.returns
returns c = all_tested _ _ c.loop-q.invariant c.loop-q-test.false
