-- `turn_rows` meets its contract: each of these vertices gets the word flipped in its own, and 2 before its code.
use borrow.Author.Rules.{rules}
use Rattle.operations_rewriting.proofs.FlippedRows.{rows-flipped}
use Rattle.operations_rewriting.proofs.pivots.turn_rows.Goals as goal

pub returns-clause-same_graph : goal.returns-clause-same_graph
returns-clause-same_graph c =
    rows-flipped _ _ _ c.args.word (c.turn_each.ensures.words_after (λ _. c.args.word) (search rules))
