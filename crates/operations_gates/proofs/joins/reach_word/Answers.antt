-- `reach_word` meets its contract: the vertices of the graph over which Z multiplies to Z at vertex a: a itself, or its
-- neighbours where its code has C = 1.
use mathlib.Core.Path.{sym, ◌∙◌}
use Rattle.operations_gates.proofs.ReachedSets.{reached-neighbours, reached-own}
use Rattle.operations_gates.proofs.joins.reach_word.Goals as goal

pub returns-then-c_bit : goal.returns-then-c_bit
returns-then-c_bit c =
    let a = c.args in
    reached-neighbours a.word a.code a.a (sym c.c_bit.ensures ∙ c.if-c_bit.true)

pub returns-else-c_bit : goal.returns-else-c_bit
returns-else-c_bit c =
    let a = c.args in
    reached-own a.word a.code a.a _ (sym c.c_bit.ensures ∙ c.if-c_bit.false)
    c.single.ensures
