-- Parts of small graphs, computed from the definition.
use mathlib.Core.Bool.{false, true}
use mathlib.Core.List.{List, [], ◌∷◌}
use mathlib.Core.Path.{refl, ◌≡◌}
use Prim.Native.Nat.{ℕ}
use lib.ListN.{length}
use Rattle.record.specs.NeighbourWords.{graph_in}
use Rattle.words.specs.Bits.{bit, fold, word_of}
use Rattle.words.specs.Search.{every, some}
use Rattle.comparison.specs.Parts.{is_closed, part_above, part_of}

-- the part of a vertex as a word, of the graph with these neighbour words
abbrev part : List ℕ → ℕ → ℕ
part words q = word_of (length words) (part_of (length words) (graph_in words) q)

-- 0 - 2, 1 - 3
abbrev crossed : List ℕ
crossed = 4 ∷ 8 ∷ 1 ∷ 2 ∷ []

-- 0 - 1 - 2, and 3 alone
abbrev path : List ℕ
path = 2 ∷ 5 ∷ 2 ∷ 0 ∷ []

pub parts-of-crossed : (part crossed 0 ∷ part crossed 1 ∷ part crossed 2 ∷ part crossed 3 ∷ [])
    ≡ (5 ∷ 10 ∷ 5 ∷ 10 ∷ [])
unfolding fold some every bit word_of is_closed part_of
parts-of-crossed = refl

pub parts-of-path : (part path 0 ∷ part path 1 ∷ part path 2 ∷ part path 3 ∷ []) ≡ (7 ∷ 7 ∷ 7 ∷ 8 ∷ [])
unfolding fold some every bit word_of is_closed part_of
parts-of-path = refl

-- the largest part of the path has three vertices
pub above : (part_above 2 4 (graph_in path) ≡ true) × (part_above 3 4 (graph_in path) ≡ false)
unfolding fold some every bit is_closed part_of part_above
above = (refl, refl)
