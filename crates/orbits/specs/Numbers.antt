-- Graphs on the vertices below n as numbers: "A graph's number reads its pairs 0-1, 0-2, and so on to the last pair as
-- bits, the first lowest."
use Rattle.std.specs.Prelude.{◌&&◌, Bool, cond, ◌||◌, ◌*◌, ◌+◌, ◌-◌, ◌/◌, ◌^◌, suc, zero, ℕ, eqb, ltb}
use Rattle.record.specs.Graph.{Graph, complement}
use Rattle.orbits.specs.declared.Pair.{Pair}
use Rattle.words.specs.Bits.{bit, word_of}
use Rattle.words.specs.Search.{some}

-- how many pairs there are
abbrev pub pairs_of : ℕ → ℕ
pairs_of n = n * (n - 1) / 2

-- how many graphs there are, and so numbers
abbrev pub graph_count : ℕ → ℕ
graph_count n = 2 ^ pairs_of n

-- the pair behind: the next larger high vertex, or else the next larger low vertex with the one after it
abbrev pub next_pair : ℕ → Pair → Pair
next_pair n p =
    cond (ltb (p.high + 1) n) (record { low = p.low; high = p.high + 1 })
    (record { low = p.low + 1; high = p.low + 2 })

-- pair k of "0-1, 0-2, and so on"
unfoldable pub pair_at : ℕ → ℕ → Pair
pair_at n zero = record { low = 0; high = 1 }
pair_at n (suc k) = next_pair n (pair_at n k)

-- the pair is that of i and j
abbrev pub joins : Pair → ℕ → ℕ → Bool
joins p i j = (eqb i p.low && eqb j p.high) || (eqb i p.high && eqb j p.low)

-- a graph's number
unfoldable pub graph_number : ℕ → Graph → ℕ
graph_number n θ = word_of (pairs_of n) (λ k. θ (pair_at n k).low (pair_at n k).high)

-- the graph with the number g
unfoldable pub graph_at : ℕ → ℕ → Graph
graph_at n g i j = some (pairs_of n) (λ k. bit g k && joins (pair_at n k) i j)

-- the number of that graph complemented at a
unfoldable pub complement_number : ℕ → ℕ → ℕ → ℕ
complement_number n g a = graph_number n (complement (graph_at n g) a)
