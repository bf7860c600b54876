-- `class_words` meets its contract: the words of the classes of a choice.
use Rattle.comparison.proofs.PlacedFours.{class-next, no-class-words}
use Rattle.comparison.proofs.WordsByBits.{all-classes}
use Rattle.comparison_search.proofs.assignments.class_words.Goals as goal

pub loop-q-init : goal.loop-q-init
loop-q-init c = no-class-words _ _

pub loop-q-preserved : goal.loop-q-preserved
loop-q-preserved c =
    let l = c.loop-q in
    let more = c.loop-q-test.true in
    class-next c.args.n c.args.choice.now l.q l.words c.place-next.result more c.class_bits-four.result
    c.place-next.ensures c.class_bits-four.ensures l.invariant

pub returns : goal.returns
returns c =
    let l = c.loop-q in
    all-classes _ _ l.q _ _ _ _ l.invariant c.loop-q-test.false
