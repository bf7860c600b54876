-- What the call on an orbit promises, for all arguments. A name with a prime is what is held at exit.
use Rattle.std.specs.Prelude.{◌||◌, List, [], ◌∷◌, ◌^◌, ℕ, eqb, ltb, length}
use Rattle.buffers.specs.Buffers.{written}
use Rattle.buffers.specs.Refusals.{Refusal, line, other_than, reaching}
use Rattle.buffers.specs.Calls.{Contract, buffer, contract_of, number}
use Rattle.record.specs.NeighbourWords.{graph_in}
use Rattle.orbits.specs.Numbers.{graph_number}
use Rattle.orbits.specs.Orbits.{orbit_list}
use Rattle.record.specs.Lent.{not_simple}

-- 2: n is 0, or "n above 6 gives 2"; 4: "Its lent buffer has 32,768 places"
abbrev pub orbit_lines : ℕ → List ℕ → List ℕ → List Refusal
orbit_lines n neighbours list =
    line 2 (eqb n 0 || ltb 6 n) ∷ line 4 (other_than n neighbours || other_than 32768 list)
    ∷ line 5 (reaching (2 ^ n) neighbours) ∷ line 7 (not_simple n (graph_in neighbours)) ∷ []

-- the list of the graph with these neighbour words
abbrev pub orbit_of : ℕ → List ℕ → List ℕ
orbit_of n neighbours = orbit_list n (graph_number n (graph_in neighbours))

-- ---- sukhlent_orbit: "all graphs that complementations reach from one on up to 6 vertices"; the places "past the
-- count keep their values"
abbrev pub orbit_call : ℕ → List ℕ → List ℕ → ℕ → List ℕ → ℕ → Contract
orbit_call n neighbours list count list' count' =
    contract_of (orbit_lines n neighbours list)
    (buffer list (written (orbit_of n neighbours) list) list' ∷ number count (length (orbit_of n neighbours)) count' ∷ [])
