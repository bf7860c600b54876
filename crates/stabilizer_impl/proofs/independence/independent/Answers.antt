-- `independent` meets its contract: whether n rows are independent.
use Rattle.stabilizer.proofs.Pairs.{letters_of}
use Rattle.stabilizer_impl.proofs.Elimination.{all-pivoted, blank-found, pivoted-next, pivoted-start}
use Rattle.stabilizer_impl.proofs.independence.independent.Goals as goal

pub loop-k-init : goal.loop-k-init
loop-k-init c =
    let a = c.args in
    pivoted-start a.n a.z.now a.x.now c.copied_words-own_z.result c.copied_words-own_x.result
    c.requires.n_bound.1 c.requires.n_bound.2
    c.copied_words-own_z.type_inv.1.0.1 c.copied_words-own_x.type_inv.1.0.1 c.copied_words-own_z.ensures
    c.copied_words-own_x.ensures c.requires.by_index

pub returns-then-word-eq0 : goal.returns-then-word-eq0
returns-then-word-eq0 c =
    let a = c.args in
    blank-found a.n (letters_of a.z.now a.x.now) c.loop-k.own_z c.loop-k.own_x c.loop-k.k c.loop-k.invariant
    c.loop-k-test.true _ c.chosen_word-word.ensures c.if-word-eq0.true

pub loop-k-preserved : goal.loop-k-preserved
loop-k-preserved c =
    let a = c.args in
    pivoted-next a.n (letters_of a.z.now a.x.now) c.loop-k.own_z c.loop-k.own_x c.loop-k.k
    c.loop-k.invariant
    c.loop-k-test.true _ c.chosen_word-word.ensures c.requires.n_bound.0
    c.if-word-eq0.false _ c.smallest.ensures.0 _ _ c.add_to_later.ensures

pub returns : goal.returns
returns c =
    let a = c.args in
    all-pivoted a.n (letters_of a.z.now a.x.now) _ _ _ c.loop-k.invariant c.loop-k-test.false
