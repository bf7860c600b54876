-- The elements of a group that act on one side of a cut alone.
use Rattle.std.specs.Prelude.{false, true, ◌≡◌, ◌<◌, ℕ}
use Rattle.pauli.specs.Pauli.{Pauli}
use Rattle.words.specs.Bits.{Word}

-- the letter I at every vertex of the marked side
pub record Avoids (n : ℕ) (side : Word) (p : Pauli) : Type 0 where
  pub no-x : (q : ℕ) → q < n → side q ≡ true → p.x q ≡ false
  pub no-z : (q : ℕ) → q < n → side q ≡ true → p.z q ≡ false
