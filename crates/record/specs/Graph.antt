-- Graphs on the vertices below n, the generators of a graph, and local complementation.
use Rattle.std.specs.Prelude.{◌&&◌, false, not, ◌≡◌, ℕ, ◌≤◌, eqb}
use Rattle.pauli.specs.Pauli.{Pauli, i⁰}
use Rattle.words.specs.Bits.{Word, ◌⊕◌}

-- one neighbour word for each vertex
abbrev pub Graph : Type 0
Graph = ℕ → Word

-- "The graph is simple: symmetric, no vertex its own neighbour"; and no neighbour is at or above n
pub record Simple (n : ℕ) (θ : Graph) : Type 0 where
  pub symmetric : (i j : ℕ) → θ i j ≡ θ j i
  pub loopless : (i : ℕ) → θ i i ≡ false
  pub below : (i q : ℕ) → n ≤ q → θ i q ≡ false

-- "generator j is X at j and Z at the neighbours of j, sign plus"
abbrev pub graph_generator : Graph → ℕ → Pauli
graph_generator θ j = record { phase = i⁰; z = θ j; x = λ q. eqb q j }

-- "Complementing at vertex a flips every edge between two neighbours of a"
abbrev pub complement : Graph → ℕ → Graph
complement θ a i j = θ i j ⊕ ((θ a i && θ a j) && not (eqb j i))
