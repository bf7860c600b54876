-- The elimination of the code: rows loaded into the tableau, and passes over the columns.
use Rattle.std.specs.Prelude.{◌&&◌, false, not, true, ◌≡◌, ◌<◌, suc, ℕ, ◌≤◌}
use Rattle.pauli.specs.Pauli.{Pauli, identity}
use Rattle.stabilizer.specs.internal.Elimination.{pivot_on}
use Rattle.stabilizer.specs.Groups.{Commuting, Within}
use Rattle.words.specs.Bits.{Word, bit, put}

-- rows of n qubits: signed and commuting, no letter at or above n, the identity from row n on
pub record Loaded (n : ℕ) (R : ℕ → Pauli) : Type 0 where
  pub commuting : Commuting n n R
  pub within : (i : ℕ) → Within n (R i)
  pub beyond : (i : ℕ) → n ≤ i → R i ≡ identity

-- one pass over the columns below q, from the rows R₀ and the pivots w₀: a column is passed over where it has its
-- pivot already or no unused row has its x bit, or it gets its pivot from an unused row i that has it
pub data Eliminated (n : ℕ) (R₀ : ℕ → Pauli) (w₀ : Word) : (ℕ → Pauli) → Word → ℕ → Type 0 where
  start : Eliminated n R₀ w₀ R₀ w₀ 0
  pivoted : {R : ℕ → Pauli} {w : Word} {q : ℕ} → Eliminated n R₀ w₀ R w q → q < n → w q ≡ true →
      Eliminated n R₀ w₀ R w (suc q)
  skip : {R : ℕ → Pauli} {w : Word} {q : ℕ} → Eliminated n R₀ w₀ R w q → q < n →
      ((i : ℕ) → i < n → (not (w i) && (R i).x q) ≡ false) → Eliminated n R₀ w₀ R w (suc q)
  pivot : {R : ℕ → Pauli} {w : Word} {q : ℕ} → Eliminated n R₀ w₀ R w q → q < n → (i : ℕ) → i < n →
      (not (w i) && (R i).x q) ≡ true → Eliminated n R₀ w₀ (pivot_on n R q i) (put w q true) (suc q)

-- rows that commute, and a word that names those with x bit q; row i is one of them
pub record PivotReady (R : ℕ → Pauli) (q i holders : ℕ) : Type 0 where
  pub column : q < 64
  pub lender : i < 64
  pub commuting : Commuting 64 64 R
  pub holds : (j : ℕ) → bit holders j ≡ (R j).x q
  pub has : (R i).x q ≡ true
