-- "all graphs that complementations reach from one", and the list of their numbers.
use Rattle.std.specs.Prelude.{Bool, cond, ◌||◌, List, [], ◌++◌, ◌∷◌, ◌≡◌, ◌<◌, ◌^◌, suc, zero, ℕ, get_or, length}
use Rattle.record.specs.Graph.{Graph, complement}
use Rattle.orbits.specs.Numbers.{complement_number, graph_count}
use Rattle.words.specs.Bits.{bit, word_of}
use Rattle.words.specs.Search.{some}

-- complementations at vertices below n lead from θ to a graph
pub data Reached (n : ℕ) (θ : Graph) : Graph → Type 0 where
  here : Reached n θ θ
  then : {φ : Graph} → Reached n θ φ → (a : ℕ) → a < n → Reached n θ (complement φ a)

-- ---- the same of numbers, as a computation. A set of numbers of graphs on n vertices is a word with a bit for each
-- the marked numbers, and those from which one complementation leads to a marked one; it leads back too
unfoldable pub spread_once : ℕ → ℕ → ℕ
spread_once n s = word_of (graph_count n) (λ h. bit s h || some n (λ a. bit s (complement_number n h a)))

-- the numbers that at most k complementations reach from g
unfoldable pub reached_within : ℕ → ℕ → ℕ → ℕ
reached_within zero n g = 2 ^ g
reached_within (suc k) n g = spread_once n (reached_within k n g)

-- the numbers below b that pass, rising
unfoldable pub selected : ℕ → (ℕ → Bool) → List ℕ
selected zero f = []
selected (suc b) f = cond (f b) (selected b f ++ (b ∷ [])) (selected b f)

-- "The list rises by number and holds each reachable graph exactly once and no other": no more complementations are
-- needed than there are graphs
unfoldable pub orbit_list : ℕ → ℕ → List ℕ
orbit_list n g = selected (graph_count n) (bit (reached_within (graph_count n) n g))

-- ---- lists
-- h stands on the list
pub record On (l : List ℕ) (h : ℕ) : Type 0 where
  pub place : ℕ
  pub within : place < length l
  pub holds : get_or l place 0 ≡ h

-- "The list rises by number": each number is larger than those before it
abbrev pub Rising : List ℕ → Type 0
Rising l = (i j : ℕ) → i < j → j < length l → get_or l i 0 < get_or l j 0
