-- Ranks across cuts of small graphs, computed from the definition.
use mathlib.Core.List.{List, [], ◌∷◌}
use mathlib.Core.Path.{refl, ◌≡◌}
use Prim.Native.Nat.{ℕ}
use lib.ListN.{length}
use Rattle.record.specs.NeighbourWords.{graph_in}
use Rattle.record.specs.Columns.{is_column_dependent}
use Rattle.words.specs.Bits.{bit, fold}
use Rattle.words.specs.Search.{every, some}
use Rattle.cut.specs.Cut.{cut_rank}

-- the rank across the cut that a word marks, of the graph with these neighbour words
abbrev across : List ℕ → ℕ → ℕ
across words side = cut_rank (length words) (bit side) (graph_in words)

-- 0 joined to 1, 2 and 3
abbrev star : List ℕ
star = 14 ∷ 1 ∷ 1 ∷ 1 ∷ []

-- 0-1-2-3-0
abbrev ring : List ℕ
ring = 10 ∷ 5 ∷ 10 ∷ 5 ∷ []

-- 0-1 and 2-3
abbrev bells : List ℕ
bells = 2 ∷ 1 ∷ 8 ∷ 4 ∷ []

-- sides as words: 1 is {0}, 3 is {0, 1}, 5 is {0, 2}, 15 has every vertex
pub stars : (across star 0 ∷ across star 1 ∷ across star 2 ∷ across star 3 ∷ across star 15 ∷ [])
    ≡ (0 ∷ 1 ∷ 1 ∷ 1 ∷ 0 ∷ [])
unfolding fold is_column_dependent some every bit
stars = refl

pub rings : (across ring 0 ∷ across ring 1 ∷ across ring 3 ∷ across ring 5 ∷ across ring 15 ∷ [])
    ≡ (0 ∷ 1 ∷ 2 ∷ 1 ∷ 0 ∷ [])
unfolding fold is_column_dependent some every bit
rings = refl

pub pairs : (across bells 0 ∷ across bells 1 ∷ across bells 3 ∷ across bells 5 ∷ across bells 15 ∷ [])
    ≡ (0 ∷ 1 ∷ 0 ∷ 2 ∷ 0 ∷ [])
unfolding fold is_column_dependent some every bit
pairs = refl
