-- Edges between two sets of vertices.
use Rattle.std.specs.Prelude.{◌&&◌, ◌||◌, ℕ, eqb}
use Rattle.words.specs.Bits.{Word, ◌⊕◌}
use Rattle.record.specs.Graph.{Graph}

-- the edges between the two sets are flipped
abbrev pub joined_by : Graph → Word → Word → Graph
joined_by θ A B k l = θ k l ⊕ ((A k && B l) ⊕ (B k && A l))

-- a vertex and its neighbours
abbrev pub closed : Graph → ℕ → Word
closed θ v q = θ v q || eqb q v
