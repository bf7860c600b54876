-- Groups carried by one code for each qubit.
use Rattle.std.specs.Prelude.{◌≡◌, ℕ}
use Rattle.clifford.specs.Clifford.{Clifford}
use Rattle.clifford.specs.Vectors.{act}
use Rattle.pauli.specs.Pauli.{Pauli}
use Rattle.stabilizer.specs.Groups.{InGroup}

-- "A choice carries one group onto another if sending each place of every element of the first through its
-- qubit's code, signs included, gives exactly the elements of the second"
pub record Carries (n : ℕ) (c : ℕ → Clifford) (rows others : ℕ → Pauli) : Type 0 where
  pub into : (p : Pauli) → InGroup n n rows p → InGroup n n others (act n c p)
  pub onto : (p : Pauli) → InGroup n n others p → (r : Pauli) × InGroup n n rows r × (p ≡ act n c r)
