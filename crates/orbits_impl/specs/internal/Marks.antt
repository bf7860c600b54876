-- A set of graphs as marks in words, and the list of its numbers in the order in which they were found.
use Rattle.std.specs.Prelude.{Bool, true, List, ◌⊎◌, ◌≡◌, ◌%◌, ◌/◌, ◌<◌, ◌≤◌, ℕ, get_or, length}
use Rattle.cut.specs.Kernel.{count}
use Rattle.orbits.specs.Numbers.{complement_number}
use Rattle.orbits.specs.Orbits.{orbit_list, selected}
use Rattle.words.specs.Bits.{bit}

-- number h is marked: 64 numbers a word
unfoldable pub marked : List ℕ → ℕ → Bool
marked marks h = bit (get_or marks (h / 64) 0) (h % 64)

-- the first `tail` places of the list hold the marked numbers, each once
pub record Queue (marks list : List ℕ) (tail : ℕ) : Type 0 where
  pub words : length marks ≡ 512
  pub places : length list ≡ 32768
  pub counted : count 32768 (marked marks) ≡ tail
  pub listed : (h : ℕ) → marked marks h ≡ true → (i : ℕ) × (i < tail) × (get_or list i 0 ≡ h)
  pub entries : (i : ℕ) → i < tail → marked marks (get_or list i 0) ≡ true

-- the numbers with P are marked, and those that were not are put behind the others
pub record Visited (P : ℕ → Type 0) (marks list : List ℕ) (tail : ℕ) (marks' list' : List ℕ) (tail' : ℕ) : Type 0 where
  pub queue : Queue marks' list' tail'
  pub more : (h : ℕ) → marked marks h ≡ true → marked marks' h ≡ true
  pub all : (h : ℕ) → P h → marked marks' h ≡ true
  pub only : (h : ℕ) → marked marks' h ≡ true → (marked marks h ≡ true) ⊎ P h
  pub upto : tail ≤ tail'
  pub kept : (i : ℕ) → i < tail → get_or list' i 0 ≡ get_or list i 0
  pub past : (i : ℕ) → tail' ≤ i → get_or list' i 0 ≡ get_or list i 0

-- u is graph g complemented at a vertex below n
abbrev pub Around : ℕ → ℕ → ℕ → ℕ → Type 0
Around n g k u = (a : ℕ) × (a < k) × (u ≡ complement_number n g a)

-- what the search leaves: the marks are the orbit of g, and the places behind its numbers keep what they held
pub record Spread (n g : ℕ) (list marks' list' : List ℕ) : Type 0 where
  pub words : length marks' ≡ 512
  pub places : length list' ≡ length list
  pub marks : selected 32768 (marked marks') ≡ orbit_list n g
  pub past : (i : ℕ) → length (orbit_list n g) ≤ i → get_or list' i 0 ≡ get_or list i 0
