-- The orbit of a graph: demand 1, and which arguments it accepts.
use Rattle.std.specs.Prelude.{List, ◌↔◌, ◌≡◌, ℕ, length}
use Rattle.buffers.specs.Refusals.{first_fitting}
use Rattle.calls.specs.Orbits.{orbit_call, orbit_lines}
use Rattle.buffers.specs.Calls.{Call}
use Rattle.claims.specs.Conforming.{Conforms}
use Rattle.claims.specs.OrbitDemand.{OrbitFits}

-- demand 1 of each call: its lines stand in the published order, and its answers fill their buffers
pub record OrbitsConform : Type 0 where
  pub orbits : (n : ℕ) (neighbours list : List ℕ) (count : ℕ) (list' : List ℕ) (count' : ℕ) →
      Conforms (orbit_call n neighbours list count list' count')

-- what a buffer lent only for the answer holds makes no line true
pub record OrbitBuffersUnread : Type 0 where
  pub orbits : (n : ℕ) (neighbours list list₂ : List ℕ) → length list ≡ length list₂ →
      first_fitting (orbit_lines n neighbours list) ≡ first_fitting (orbit_lines n neighbours list₂)

-- of each call: it is accepted exactly if its arguments fit
pub record OrbitsAccepted : Type 0 where
  pub orbit : (n : ℕ) (neighbours list : List ℕ) (count : ℕ) (list' : List ℕ) (count' r : ℕ) →
      Call (orbit_call n neighbours list count list' count') r → (r ≡ 0) ↔ OrbitFits n neighbours list
