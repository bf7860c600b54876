-- The connected parts of a graph, by the sets of vertices that no edge leaves.
use Rattle.std.specs.Prelude.{◌&&◌, Bool, not, true, ◌||◌, ◌≡◌, ◌<◌, ◌^◌, ℕ, ltb}
use Rattle.cut.specs.Kernel.{count}
use Rattle.record.specs.Graph.{Graph}
use Rattle.words.specs.Bits.{Word, bit}
use Rattle.words.specs.Search.{every, some}

-- no edge leaves the set s of vertices: each neighbour of one of them is one of them
unfoldable pub is_closed : ℕ → Graph → Word → Bool
is_closed n θ s = every n (λ i. every n (λ j. not (s i && θ i j) || s j))

-- vertex t lies in the connected part of vertex q: every set of vertices that has q, and that no edge leaves, has t
unfoldable pub part_of : ℕ → Graph → ℕ → Word
part_of n θ q t = every (2 ^ n) (λ v. not (is_closed n θ (bit v) && bit v q) || bit v t)

-- a path of edges leads from q to t
pub data Path (n : ℕ) (θ : Graph) (q : ℕ) : ℕ → Type 0 where
  here : Path n θ q q
  along : (s t : ℕ) → s < n → t < n → Path n θ q s → θ s t ≡ true → Path n θ q t

-- some part has more than k vertices
unfoldable pub part_above : ℕ → ℕ → Graph → Bool
part_above k n θ = some n (λ q. ltb k (count n (part_of n θ q)))
