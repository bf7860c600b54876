-- Graphs on the vertices below n as numbers: "A graph's number reads its pairs 0-1, 0-2, and so on to the last pair as
-- bits, the first lowest.": what only the proofs name.
use Rattle.std.specs.Prelude.{◌&&◌, List, ◌≡◌, ℕ, get_or, length}
use Rattle.words.specs.Bits.{bit}
use Rattle.orbits.specs.Numbers.{graph_number, graph_at}

-- the neighbour words of that graph, for up to 6 vertices
pub record WordsOf (n g : ℕ) (words : List ℕ) : Type 0 where
  pub long : length words ≡ 6
  pub edges : (i j : ℕ) → bit (get_or words i 0) j ≡ graph_at n g i j

-- the number of the graph in which each two vertices of a set are joined
unfoldable pub pairs_within : ℕ → ℕ → ℕ
pairs_within n s = graph_number n (λ i j. bit s i && bit s j)
