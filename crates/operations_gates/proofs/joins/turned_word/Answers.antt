-- `turned_word` meets its contract: the vertices that get Z before their codes: those of both sets, and those of one
-- where the other has the sign.
use mathlib.Core.Bool.{◌&&◌}
use mathlib.Core.Path.{ap, ◌∙◌}
use Rattle.words.proofs.BitLaws.{bit-and, bit-xors}
use Rattle.words.specs.Bits.{bit, ◌⊕◌}
use Rattle.operations_gates.proofs.joins.turned_word.Goals as goal

pub returns : goal.returns
returns c =
    λ q.
    let a = c.args in
    bit-xors _ _ _ (λ q. a.minus_a && bit a.to_b q) (λ q. a.minus_b && bit a.to_a q)
    c.where_true.ensures c.where_true-2.ensures q
    ∙ ap (λ b. b ⊕ ((a.minus_a && bit a.to_b q) ⊕ (a.minus_b && bit a.to_a q)))
    (bit-and a.to_a a.to_b q)
