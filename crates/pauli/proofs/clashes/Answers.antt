-- `clashes` meets its contract: whether two generators fail to commute: the places where both act and differ are odd in
-- number.
use mathlib.Core.Path.{◌∙◌, sym}
use borrow.Author.Rules.{rules}
use Rattle.pauli.specs.Pauli.{i⁰}
use Rattle.pauli.proofs.WordRows.{anticommute-count}
use Rattle.pauli.proofs.clashes.Goals as goal

pub returns : goal.returns
returns c =
    let a = c.args in
    c.odd.ensures
    ∙ sym (anticommute-count 64 a.z a.x a.z2 a.x2 (search rules) (search rules) (search rules)
    (search rules)
    i⁰ i⁰)
