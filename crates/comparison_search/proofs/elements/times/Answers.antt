-- `times` meets its contract: the product of two generators that commute.
use mathlib.Core.Path.{◌∙◌}
use Rattle.pauli.proofs.PauliLaws.{anticommute-letters}
use Rattle.pauli.specs.Pauli.{i⁰}
use Rattle.pauli.specs.internal.Rows.{generator_of}
use Rattle.comparison.proofs.RecordElements.{generator-times}
use Rattle.comparison_search.proofs.elements.times.Goals as goal

pub letters_minus-letters-requires : goal.letters_minus-letters-requires
letters_minus-letters-requires c =
    let a = c.args in
    anticommute-letters 64 (generator_of a.p) (generator_of a.g) i⁰ i⁰ ∙ c.requires

pub returns : goal.returns
returns c =
    let a = c.args in
    generator-times a.p a.g c.letters_minus-letters.result
    c.letters_minus-letters.ensures
