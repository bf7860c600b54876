-- `joined_word` meets its contract: the word of vertex i with its edges between the two sets flipped.
use mathlib.Core.Bool.{◌&&◌}
use mathlib.Core.Path.{ap₂, ◌∙◌}
use Rattle.words.proofs.BitLaws.{bit-xors}
use Rattle.words.specs.Bits.{bit, ◌⊕◌}
use Rattle.record.proofs.graph.joined_word.Goals as goal

pub returns : goal.returns
returns c =
    λ l.
    let a = c.args in
    bit-xors a.word _ _ (λ l. c.has.result && bit a.to_b l)
    (λ l. c.has-2.result && bit a.to_a l)
    c.where_true.ensures c.where_true-2.ensures l
    ∙ ap₂ (λ u v. bit a.word l ⊕ ((u && bit a.to_b l) ⊕ (v && bit a.to_a l))) c.has.ensures
    c.has-2.ensures
