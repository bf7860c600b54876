-- A constant that holds the matrices of the classes, by computed tests.
use mathlib.Core.Bool.{true}
use mathlib.Core.Path.{◌≡◌}
use Prim.Native.Nat.{◌*◌, ◌/◌, ◌<◌, ◌^◌, ℕ}
use lib.Bits.{bit_and}
use Rattle.clifford.specs.Clifford.{class_of}
use Rattle.words.proofs.Flags.{true-same_bit}
use Rattle.words.proofs.SearchLaws.{every-at}
use Rattle.words.specs.Bits.{bit, same_bit}
use Rattle.words.specs.Search.{every}
use Rattle.comparison.specs.internal.Equations.{entry}

-- the constant m has the matrix of class v in the four bits from place 4v on
abbrev pub Matrices : ℕ → Type 0
Matrices m = every 6 (λ v. every 4 (λ l. same_bit (bit (bit_and (m / 2 ^ (4 * v)) 15) l) (entry l (class_of v)))) ≡ true

pub class-four : (m : ℕ) → Matrices m → (v : ℕ) → v < 6
    → (l : ℕ) → l < 4 → bit (bit_and (m / 2 ^ (4 * v)) 15) l ≡ entry l (class_of v)
class-four m test v k l h =
    true-same_bit _ _ (every-at 4 (λ l. same_bit (bit (bit_and (m / 2 ^ (4 * v)) 15) l) (entry l (class_of v)))
    (every-at 6 (λ v. every 4 (λ l. same_bit (bit (bit_and (m / 2 ^ (4 * v)) 15) l) (entry l (class_of v)))) test v k) l h)
