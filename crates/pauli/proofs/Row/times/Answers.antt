-- `times` meets its contract: the product of two rows, its phase from 0 to 3.
use mathlib.Core.Path.{◌∙◌, ap}
use Rattle.pauli.specs.Pauli.{◌+ᵖ◌, power}
use Rattle.pauli.proofs.PhaseLaws.{power-exponent}
use Rattle.pauli.proofs.WordRows.{row-times}
use Rattle.pauli.proofs.Row.times.Goals as goal

pub returns : goal.returns
returns c =
    let summed = c.sum_phase-phase.ensures in
    let letters = c.letters_phase-letters.ensures.0 in
    let a = c.args in (
      row-times 64 a.self.z a.self.x a.other.z a.other.x (power a.self.phase)
          (power a.other.phase) _
          (summed.0
          ∙ ap (λ t. (power a.self.phase +ᵖ power a.other.phase) +ᵖ t) (ap power letters
          ∙ power-exponent _)),
      summed.1,
    )
