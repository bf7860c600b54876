-- Generator lists on n qubits, and the group of a list.
use Rattle.std.specs.Prelude.{Bool, false, true, ◌≡◌, ◌<◌, ℕ, ◌≤◌}
use Rattle.pauli.specs.Pauli.{Pauli, anticommute, identity, imaginary, mul}
use Rattle.words.specs.Bits.{Word, fold}

-- ---- products and the group
-- "its group is all products, signs included": of any number of the first m rows, in any order
pub data Generated (n m : ℕ) (rows : ℕ → Pauli) : Pauli → Type 0 where
  unit : Generated n m rows identity
  times : (j : ℕ) → j < m → {p : Pauli} → Generated n m rows p → Generated n m rows (mul n (rows j) p)

-- the row where it is chosen, the identity where it is not
abbrev pub chosen : Bool → Pauli → Pauli
chosen false r = identity
chosen true r = r

-- the product, in index order, of those of the first m rows that the word chooses
abbrev pub product : ℕ → ℕ → Word → (ℕ → Pauli) → Pauli
product n m w rows = fold identity (mul n) m (λ j. chosen (w j) (rows j))

-- "its group is all products, signs included": generators that commute need each be taken once at most, and in index
-- order
abbrev pub InGroup : ℕ → ℕ → (ℕ → Pauli) → Pauli → Type 0
InGroup n m rows p = (w : Word) × (p ≡ product n m w rows)

-- equal groups: each list's group has the elements of the other's
pub record SameGroup (n m : ℕ) (rows others : ℕ → Pauli) : Type 0 where
  pub there : (p : Pauli) → InGroup n m rows p → InGroup n m others p
  pub back : (p : Pauli) → InGroup n m others p → InGroup n m rows p

-- ---- lists
-- "pairwise commuting", each generator with a sign, 1 or -1
pub record Commuting (n m : ℕ) (rows : ℕ → Pauli) : Type 0 where
  pub signed : (j : ℕ) → j < m → imaginary (rows j).phase ≡ false
  pub commute : (i j : ℕ) → i < m → j < m → anticommute n (rows i) (rows j) ≡ false

-- no letter but I on the n qubits
pub record Trivial (n : ℕ) (p : Pauli) : Type 0 where
  pub no-x : (q : ℕ) → q < n → p.x q ≡ false
  pub no-z : (q : ℕ) → q < n → p.z q ≡ false

-- "independent modulo 2 with signs dropped": only the empty product of chosen rows has no letter
abbrev pub Independent : ℕ → (ℕ → Pauli) → Type 0
Independent n rows = (w : Word) → Trivial n (product n n w rows) → (j : ℕ) → j < n → w j ≡ false

-- no bit at or above n: the row is one of n qubits
pub record Within (n : ℕ) (p : Pauli) : Type 0 where
  pub no-x : (q : ℕ) → n ≤ q → p.x q ≡ false
  pub no-z : (q : ℕ) → n ≤ q → p.z q ≡ false

-- "A list has n generators, pairwise commuting and independent modulo 2 with signs dropped"
pub record Proper (n : ℕ) (rows : ℕ → Pauli) : Type 0 where
  pub commuting : Commuting n n rows
  pub independent : Independent n rows
  pub within : (j : ℕ) → j < n → Within n (rows j)
