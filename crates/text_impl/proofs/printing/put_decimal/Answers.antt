-- `put_decimal` meets its contract: a decimal number below 100.
use native.Mathlib.Omega.{arith}
use borrow.Author.Tests.{lt-ltb, le-ltb}
use Rattle.text.specs.Text.{decimal}
use Rattle.buffers.proofs.Writing.{and_then}
use Rattle.text_impl.proofs.printing.put_decimal.Goals as goal

pub returns-then-k-lt10 : goal.returns-then-k-lt10
unfolding decimal
returns-then-k-lt10 c =
    simp (lt-ltb _ _ c.if-k-lt10.true)
    c.put.ensures

pub returns : goal.returns
unfolding decimal
returns c =
    simp (le-ltb _ _ c.if-k-lt10.false)
    (and_then (omega arith) c.put-next.ensures c.put-2.ensures)
