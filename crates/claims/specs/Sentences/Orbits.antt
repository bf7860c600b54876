-- What the documents say of the exported function that lists an orbit, in one record: demand 1, which arguments it
-- accepts, and the sentences of the demands and of the requests that speak of its answer.
use Rattle.std.specs.Prelude.{List, ◌↔◌, ◌≡◌, ℕ}
use Rattle.calls.specs.Orbits.{orbit_call}
use Rattle.claims.specs.Conforming.{Answered}
use Rattle.claims.specs.OrbitDemand.{Listed, OrbitFits}
use Rattle.buffers.specs.Sentences.{FirstTrue}
use Rattle.claims.specs.Numbers.{orbit_sentences}

-- of orbit: demand 1, and that the list holds exactly the graphs that complementations reach
pub record OrbitSays (n : ℕ) (neighbours list : List ℕ) (count : ℕ) (list' : List ℕ) (count' r : ℕ) : Type 0 where
  pub answered : Answered (orbit_call n neighbours list count list' count') r
  pub accepted : (r ≡ 0) ↔ OrbitFits n neighbours list
  pub numbers : FirstTrue (orbit_sentences n neighbours list) r
  pub listed : r ≡ 0 → Listed n neighbours list list' count'
