-- Graphs as they are lent: a buffer with one neighbour word for each vertex: what only the proofs name.
use Rattle.std.specs.Prelude.{◌≡◌, ℕ}
use Rattle.record.specs.Graph.{Graph}

-- equal graphs: the same neighbours at every vertex
abbrev pub SameGraph : Graph → Graph → Type 0
SameGraph θ φ = (j q : ℕ) → θ j q ≡ φ j q
