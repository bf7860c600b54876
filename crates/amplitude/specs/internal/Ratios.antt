-- The words with a nonzero amplitude, and each amplitude over that of the smallest of them (02, §11), by search over
-- the products of the generators: what only the proofs name.
use Rattle.std.specs.Prelude.{false, ◌≡◌, ◌<◌, ℕ}
use Rattle.pauli.specs.Pauli.{Pauli, i⁰}
use Rattle.stabilizer.specs.Groups.{InGroup}
use Rattle.words.specs.Bits.{Word}
use Rattle.amplitude.specs.Turns.{turns_at}

-- ---- as relations
-- no x bit on the n qubits: the element only gives each word a power of i
abbrev pub Diagonal : ℕ → Pauli → Type 0
Diagonal n p = (q : ℕ) → q < n → p.x q ≡ false

-- the amplitude at y can be other than 0: every diagonal element of the group keeps its sign there
abbrev pub Supported : ℕ → (ℕ → Pauli) → Word → Type 0
Supported n R y = (p : Pauli) → InGroup n n R p → Diagonal n p → turns_at n p y ≡ i⁰
