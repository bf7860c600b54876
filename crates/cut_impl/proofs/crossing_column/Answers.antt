-- `crossing_column` meets its contract: column k of the edges between the sides, as a word over the marked side: the
-- neighbours of k there where k is on the other side, else none.
use mathlib.Core.Path.{sym, ◌∙◌}
use Rattle.cut_impl.proofs.Crossings.{crossing-word, no-crossing}
use Rattle.cut_impl.proofs.crossing_column.Goals as goal

pub returns-then-has : goal.returns-then-has
returns-then-has c =
    let a = c.args in
    no-crossing a.neighbours.now a.side a.k (sym c.has.ensures ∙ c.if-has.true)

pub returns-else-has : goal.returns-else-has
returns-else-has c =
    crossing-word c.args.neighbours.now c.args.side c.args.k c.requires.by_index
    (sym c.has.ensures ∙ c.if-has.false)
