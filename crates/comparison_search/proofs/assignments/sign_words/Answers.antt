-- `sign_words` meets its contract: the words of the signs of a choice.
use Rattle.comparison.proofs.PlacedFours.{all-sign-words, no-sign-words, sign-next}
use Rattle.comparison_search.proofs.assignments.sign_words.Goals as goal

pub loop-q-init : goal.loop-q-init
loop-q-init c = no-sign-words _ _

pub loop-q-preserved : goal.loop-q-preserved
loop-q-preserved c =
    let l = c.loop-q in
    let more = c.loop-q-test.true in
    sign-next c.args.n c.args.choice.now l.q l.words c.place_signs-next.result more c.place_signs-next.ensures
    l.invariant

pub returns : goal.returns
returns c =
    let l = c.loop-q in
    all-sign-words _ _ l.q l.words l.invariant c.loop-q-test.false
