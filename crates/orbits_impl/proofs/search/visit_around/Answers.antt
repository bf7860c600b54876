-- `visit_around` meets its contract: the same of graph g complemented at each vertex: the edges between two neighbours
-- of it are flipped.
use native.Mathlib.Omega.{arith}
use Rattle.orbits_impl.proofs.Following.{around-more, around-number, around-small, taken-word, word_small}
use Rattle.orbits_impl.proofs.search.visit_around.Goals as goal

pub offset_bounds-within-around : goal.offset_bounds-within-around
offset_bounds-within-around c =
    let W = c.graph_words-words in
    let same = taken-word c.args.n W.result _ c.loop-around-test.true in
    record { fits = omega (arith, same, word_small c.requires.le_n.1 W.ensures c.loop-around.around-index) }

pub bounds-within-around : goal.bounds-within-around
bounds-within-around c =
    let W = c.graph_words-words in
    rw (taken-word c.args.n W.result _ c.loop-around-test.true)
    (word_small c.requires.le_n.1 W.ensures c.loop-around.around-index)

pub visit-end-requires : goal.visit-end-requires
visit-end-requires c =
    let p = c.requires.le_n in
    let W = c.graph_words-words in (
      rw (taken-word c.args.n W.result _ c.loop-around-test.true)
          (around-small p.1 W.ensures c.loop-around.around-index p.2 _ p.3),
      c.loop-around.invariant.queue,
    )

pub loop-around-preserved : goal.loop-around-preserved
loop-around-preserved c =
    let p = c.requires.le_n in
    let W = c.graph_words-words in
    around-more c.args.n c.args.g c.loop-around.around-index c.loop-around.invariant _
    (rw (taken-word c.args.n W.result _ c.loop-around-test.true)
    (around-number p.1 W.ensures c.loop-around.around-index p.2 _ p.3))
    c.visit-end.ensures
