-- The vertices of a set numbered in rising order, and what a graph and codes are in these numbers.
use Rattle.std.specs.Prelude.{◌&&◌, false, true, ◌≡◌, ◌<◌, ◌≤◌, ℕ, ltb}
use Rattle.record.specs.Graph.{Graph}
use Rattle.pauli.specs.Pauli.{Pauli}
use Rattle.words.specs.Bits.{Word}

-- e 0, e 1 .. e (k - 1) are the marked vertices below n, in rising order
pub record Numbers (n : ℕ) (s : Word) (k : ℕ) (e : ℕ → ℕ) : Type 0 where
  pub rising : (i j : ℕ) → i < j → j < k → e i < e j
  pub below : (i : ℕ) → i < k → e i < n
  pub inside : (i : ℕ) → i < k → s (e i) ≡ true
  pub onto : (q : ℕ) → q < n → s q ≡ true → (i : ℕ) × (i < k) × (e i ≡ q)

-- a graph in these numbers
abbrev pub part_graph : ℕ → (ℕ → ℕ) → Graph → Graph
part_graph k e θ i j = ltb i k && (ltb j k && θ (e i) (e j))

-- a row of k qubits, and the row of n qubits that has its letters at the marked ones and I elsewhere
pub record Placed (n : ℕ) (s : Word) (k : ℕ) (e : ℕ → ℕ) (p P : Pauli) : Type 0 where
  pub phase : P.phase ≡ p.phase
  pub z : (i : ℕ) → i < k → P.z (e i) ≡ p.z i
  pub x : (i : ℕ) → i < k → P.x (e i) ≡ p.x i
  pub no-z : (q : ℕ) → ((i : ℕ) → i < k → e i ≡ q → ⊥) → P.z q ≡ false
  pub no-x : (q : ℕ) → ((i : ℕ) → i < k → e i ≡ q → ⊥) → P.x q ≡ false
  pub short-z : (i : ℕ) → k ≤ i → p.z i ≡ false
  pub short-x : (i : ℕ) → k ≤ i → p.x i ≡ false
