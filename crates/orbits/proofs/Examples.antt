-- Numbers and orbits of small graphs, computed from the definitions.
use mathlib.Core.List.{List, [], ◌∷◌}
use mathlib.Core.Path.{refl, ◌≡◌}
use Prim.Native.Nat.{ℕ}
use lib.ListN.{length}
use Rattle.record.specs.NeighbourWords.{graph_in}
use Rattle.words.specs.Bits.{bit, word_of}
use Rattle.words.specs.Search.{some}
use Rattle.orbits.specs.Numbers.{complement_number, graph_at, graph_number, pair_at}
use Rattle.orbits.specs.Orbits.{orbit_list, reached_within, selected, spread_once}

-- the number of the graph with these neighbour words
abbrev numbered : List ℕ → ℕ
numbered words = graph_number (length words) (graph_in words)

-- the edge 0-3 on four vertices; the path 0-1-2; the star on four vertices; the path 0-1-2-3; one vertex
pub numbers : (numbered (8 ∷ 0 ∷ 0 ∷ 1 ∷ []) ∷ numbered (2 ∷ 5 ∷ 2 ∷ []) ∷ numbered (14 ∷ 1 ∷ 1 ∷ 1 ∷ [])
    ∷ numbered (2 ∷ 5 ∷ 10 ∷ 4 ∷ []) ∷ numbered (0 ∷ []) ∷ []) ≡ (4 ∷ 5 ∷ 7 ∷ 41 ∷ 0 ∷ [])
unfolding graph_number pair_at word_of bit
numbers = refl

pub one : orbit_list 1 0 ≡ (0 ∷ [])
unfolding orbit_list selected reached_within spread_once complement_number graph_at graph_number pair_at word_of bit some
one = refl

pub path-of-three : orbit_list 3 5 ≡ (3 ∷ 5 ∷ 6 ∷ 7 ∷ [])
unfolding orbit_list selected reached_within spread_once complement_number graph_at graph_number pair_at word_of bit some
path-of-three = refl

pub star-of-four : orbit_list 4 7 ≡ (7 ∷ 25 ∷ 42 ∷ 52 ∷ 63 ∷ [])
unfolding orbit_list selected reached_within spread_once complement_number graph_at graph_number pair_at word_of bit some
star-of-four = refl

pub path-of-four : orbit_list 4 41
    ≡ (30 ∷ 31 ∷ 35 ∷ 37 ∷ 39 ∷ 41 ∷ 43 ∷ 49 ∷ 53 ∷ 57 ∷ 62 ∷ [])
unfolding orbit_list selected reached_within spread_once complement_number graph_at graph_number pair_at word_of bit some
path-of-four = refl
