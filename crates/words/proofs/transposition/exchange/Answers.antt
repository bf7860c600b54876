-- `exchange` meets its contract: one round on m rows and columns: bit s of the row's number and of the column's are
-- exchanged.
use native.Mathlib.Omega.{arith}
use lib.ListN.{length-set}
use Rattle.words.proofs.Exchanging.{all-exchanged, block-begins, block-inside, block-passed, blocks-end, no-block, nothing-exchanged, one-block, pair-exchanged}
use Rattle.words.proofs.transposition.exchange.Goals as goal

pub returns-then-m-s : goal.returns-then-m-s
returns-then-m-s c = nothing-exchanged _ _ _ c.requires.rows_len.0 c.if-m-s.true

pub loop-i-init : goal.loop-i-init
loop-i-init c =
    no-block _ _ _ c.requires.rows_len.1 c.requires.round.0 (c.requires.round.1 c.if-m-s.false) _ c.requires.rows_len.0

pub loop-k-preserved : goal.loop-k-preserved
loop-k-preserved c =
    let small = c.requires.rows_len.1 in
    let round = c.requires.round.0 in
    let fits = c.requires.round.1 c.if-m-s.false in
    let known = c.loop-k.invariant in (
      (omega (arith, known.0.0), omega (arith, c.loop-k-test.true)),
      (
        simp length-set known.1.0,
        λ first U. pair-exchanged _ _ _ small round fits _ (block-inside _ _ _ small round fits _ c.loop-i-test.true)
            (block-begins _ _ _ small round fits _) _ known.0.0 c.loop-k-test.true first _ (known.1.1 first U),
      ),
    )

pub loop-i-preserved : goal.loop-i-preserved
loop-i-preserved c =
    let small = c.requires.rows_len.1 in
    let round = c.requires.round.0 in
    let fits = c.requires.round.1 c.if-m-s.false in
    let known = c.loop-k.invariant in
    one-block _ _ _ small round fits _ _ _
    (block-passed _ _ _ small round fits _ (block-inside _ _ _ small round fits _ c.loop-i-test.true)
    (block-begins _ _ _ small round fits _) _ _ _ known.0.1 c.loop-k-test.false (known.1.1 _ c.loop-i.invariant))

pub returns : goal.returns
returns c =
    let small = c.requires.rows_len.1 in
    let round = c.requires.round.0 in
    let fits = c.requires.round.1 c.if-m-s.false in
    all-exchanged _ _ _ small round fits _ _ _ c.loop-i.invariant (blocks-end _ _ _ small round fits _ c.loop-i-test.false)
