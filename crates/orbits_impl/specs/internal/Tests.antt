-- A test of the pairs of vertices below n, by what its calls require and answer.
use Rattle.std.specs.Prelude.{Bool, ◌≡◌, ◌<◌, ℕ}
use Rattle.orbits.specs.declared.Pair.{Pair}
use Rattle.record.specs.Graph.{Graph}

-- the test may be called at every pair
abbrev pub Tests : ℕ → (Pair → Type 0) → Type 0
Tests n pre = (pair : Pair) → pair.low < pair.high → pair.high < n → pre pair

-- what it answers are the edges of a graph
abbrev pub Tells : ℕ → (Pair → Bool → Type 0) → Graph → Type 0
Tells n post θ = (pair : Pair) → pair.low < pair.high → pair.high < n → (b : Bool) → post pair b
    → b ≡ θ pair.low pair.high
