-- `letter_named` meets its contract: the letter that a Pauli's number names: 1 X, 2 Y, 3 Z.
use mathlib.Core.Path.{◌≡◌, ap}
use native.Mathlib.Omega.{arith}
use Rattle.operations.specs.Measurement.{pauli_letter}
use Rattle.operations_measurement.proofs.letter_named.Goals as goal

pub returns-in_default : goal.returns-in_default
returns-in_default c = let three : 3 ≡ c.args.pauli = omega arith in ap pauli_letter three
