-- The connected parts of a graph, by the sets of vertices that no edge leaves: what only the proofs name.
use Rattle.std.specs.Prelude.{true, ◌≡◌, ◌<◌, ℕ}
use Rattle.record.specs.Graph.{Graph}
use Rattle.words.specs.Bits.{Word}

-- no edge leads from a marked vertex to one that is not
abbrev pub Closed : ℕ → Graph → Word → Type 0
Closed n θ s = (i j : ℕ) → i < n → j < n → s i ≡ true → θ i j ≡ true → s j ≡ true
