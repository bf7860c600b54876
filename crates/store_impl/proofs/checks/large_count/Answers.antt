-- `large_count` meets its contract: whether some place has an n above 64.
use mathlib.Core.Path.{◌∙◌, ap, sym}
use native.Mathlib.Omega.{arith}
use lib.Dec.{ltb}
use borrow.Author.Tests.{le-ltb, lt-ltb}
use Rattle.words.proofs.Searching.{no-some, none_here, some-found}
use Rattle.store_impl.proofs.checks.large_count.Goals as goal

pub returns-then-word_at-gt64 : goal.returns-then-word_at-gt64
returns-then-word_at-gt64 c =
    some-found _ _ c.loop-i.invariant _ (omega arith)
    (ap (ltb 64) (sym c.word_at.ensures) ∙ lt-ltb 64 _ c.if-word_at-gt64.true)

pub loop-i-preserved : goal.loop-i-preserved
loop-i-preserved c =
    none_here _ _ c.loop-i.invariant (ap (ltb 64) (sym c.word_at.ensures) ∙ le-ltb 64 _ c.if-word_at-gt64.false)

pub returns : goal.returns
returns c = no-some _ _ c.loop-i.invariant _ (omega arith)
