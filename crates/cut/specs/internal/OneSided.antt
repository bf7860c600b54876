-- The elements of a group that act on one side of a cut alone: what only the proofs name.
use Rattle.std.specs.Prelude.{◌≡◌, ℕ}
use Rattle.pauli.specs.Pauli.{Pauli}
use Rattle.stabilizer.specs.Groups.{InGroup}
use Rattle.words.specs.Bits.{Word}
use Rattle.cut.specs.OneSided.{Avoids}

-- the elements of one group that avoid the marked side go, each to another one, to elements of a second group that
-- avoid it
pub record Embeds (n : ℕ) (side : Word) (rows others : ℕ → Pauli) : Type 0 where
  pub to : Pauli → Pauli
  pub lands : (p : Pauli) → InGroup n n rows p → Avoids n side p → InGroup n n others (to p)
  pub avoids : (p : Pauli) → InGroup n n rows p → Avoids n side p → Avoids n side (to p)
  pub apart : (p r : Pauli) → InGroup n n rows p → InGroup n n rows r → to p ≡ to r → p ≡ r
