-- `letters_minus` meets its contract: the sign of the product of the letters of two rows that commute; true means
-- minus.
use Rattle.pauli.proofs.WordRows.{letters-sign}
use Rattle.pauli.proofs.letters_minus.Goals as goal

pub returns : goal.returns
returns c =
    let a = c.args in
    letters-sign 64 a.z a.x a.z2 a.x2 _ c.requires c.letters_phase.ensures.0
