-- Choices for one part of a graph: which of them work.
use Rattle.std.specs.Prelude.{not, ◌≡◌, ℕ}
use Rattle.clifford.specs.Clifford.{Clifford}
use Rattle.clifford.specs.Vectors.{act}
use Rattle.cut.specs.OneSided.{Avoids}
use Rattle.pauli.specs.Pauli.{Pauli}
use Rattle.stabilizer.specs.Groups.{InGroup}
use Rattle.words.specs.Bits.{Word}

-- the letter I at every vertex that is not marked
abbrev pub ActsOn : ℕ → Word → Pauli → Type 0
ActsOn n s = Avoids n (λ q. not (s q))

-- a choice carries the elements of one group that act on the marked vertices alone onto those of another; its codes at
-- the other vertices do not matter
pub record CarriesOn (n : ℕ) (s : Word) (c : ℕ → Clifford) (rows others : ℕ → Pauli) : Type 0 where
  pub into : (p : Pauli) → InGroup n n rows p → ActsOn n s p → InGroup n n others (act n c p)
  pub onto : (p : Pauli) → InGroup n n others p → ActsOn n s p
      → (r : Pauli) × InGroup n n rows r × ActsOn n s r × (p ≡ act n c r)
