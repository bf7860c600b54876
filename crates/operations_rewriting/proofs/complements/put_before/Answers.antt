-- `put_before` meets its contract: code k before the codes of the vertices that the word names.
use Prim.Native.Nat.{◌<◌}
use native.Mathlib.Omega.{arith}
use lib.ListN.{get_or}
use Rattle.buffers.proofs.OverSets.{next-in, next-less}
use Rattle.words.proofs.Dropping.{dropped-at}
use Rattle.operations_rewriting.proofs.PuttingBefore.{put-end, put-more, put_small, put-start}
use Rattle.operations_rewriting.proofs.complements.put_before.Lts as lts
use Rattle.operations_rewriting.proofs.complements.put_before.Reads as reads
use Rattle.operations_rewriting.proofs.complements.put_before.Tie as tie
use Rattle.operations_rewriting.proofs.complements.put_before.Goals as goal

-- where the lemmas below stand
abbrev AfterSmallestI : Type 0
AfterSmallestI = lts.After-smallest tie.the-claims reads.Pre reads.Post goal.the-invariant-loop-rest goal.the-decreases-loop-rest tie.handed_clauses

pub loop-rest-init : goal.loop-rest-init
loop-rest-init c =
    put-start _ c.args.word c.args.k c.requires.codes_len_bound.1
    c.requires.word_bound.0

pub bounds-codes-i : goal.bounds-codes-i
bounds-codes-i c =
    next-in _ _ _ _ _ c.loop-rest.invariant c.requires.codes_len_bound.0 c.loop-rest-test.true _
    c.smallest-i.ensures.0

-- a code is below 24
small : (c : AfterSmallestI) → get_or c.loop-rest.codes c.smallest-i.result 0 < 24
small c =
    put_small _ _ c.args.k _ _ c.loop-rest.invariant c.requires.codes_len_bound.0 c.requires.codes_len_bound.1
    c.loop-rest-test.true _ c.smallest-i.ensures.0

pub overflow_cast-codes : goal.overflow_cast-codes
overflow_cast-codes c = omega (arith, small c.before.before)

pub bounds-turned-code : goal.bounds-turned-code
bounds-turned-code c = small c.before.before

pub bounds-codes-i-in-loop-rest : goal.bounds-codes-i-in-loop-rest
bounds-codes-i-in-loop-rest c =
    next-in _ _ _ _ _ c.loop-rest.invariant c.requires.codes_len_bound.0 c.loop-rest-test.true _
    c.smallest-i.ensures.0

pub without_smallest-rest-requires : goal.without_smallest-rest-requires
without_smallest-rest-requires c = c.loop-rest-test.true

pub loop-rest-smaller : goal.loop-rest-smaller
loop-rest-smaller c =
    next-less _ _ _ _ _ c.loop-rest.invariant c.requires.codes_len_bound.0 c.loop-rest-test.true _
    c.smallest-i.ensures.0 _
    (dropped-at _ _ _ c.without_smallest-rest.ensures c.smallest-i.ensures.0)

pub loop-rest-preserved : goal.loop-rest-preserved
loop-rest-preserved c =
    let at-smallest = c.before.before in
    put-more _ at-smallest.args.word at-smallest.args.k _ _ at-smallest.loop-rest.invariant at-smallest.requires.codes_len_bound.0
    at-smallest.loop-rest-test.true _ at-smallest.smallest-i.ensures.0 _ _
    (at-smallest.before_each-turned.ensures _ (small at-smallest))
    (dropped-at _ _ _ c.without_smallest-rest.ensures at-smallest.smallest-i.ensures.0)

pub returns : goal.returns
returns c =
    put-end _ c.args.word c.args.k _ _ c.loop-rest.invariant c.loop-rest-test.false
