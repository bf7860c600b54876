-- Membership in a group as a test, by search over the products of the generators.
use Rattle.std.specs.Prelude.{◌&&◌, Bool, ◌^◌, ℕ}
use Rattle.pauli.specs.Pauli.{Pauli, same_phase}
use Rattle.words.specs.Bits.{bit, same_bit}
use Rattle.words.specs.Search.{every, some}
use Rattle.stabilizer.specs.Groups.{product}

-- equal operators on n qubits: the same phase, and the same letters below n
abbrev pub equal_below : ℕ → Pauli → Pauli → Bool
equal_below n p r = same_phase p.phase r.phase
    && every n (λ q. same_bit (p.z q) (r.z q) && same_bit (p.x q) (r.x q))

-- the row is a product of some of the first n generators, sign included
unfoldable pub member : ℕ → (ℕ → Pauli) → Pauli → Bool
member n rows p = some (2 ^ n) (λ v. equal_below n p (product n n (bit v) rows))
