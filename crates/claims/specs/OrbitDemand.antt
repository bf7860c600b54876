-- Orbits (02, §14): "The list rises by number and holds each reachable graph exactly once and no other"; "Two graphs
-- lie on one list exactly if their plain states, all codes 0, pass 01's comparison." A name with a prime is what is
-- held at exit.
use Rattle.std.specs.Prelude.{List, ◌↔◌, ◌≡◌, ◌<◌, ◌^◌, ◌≤◌, ℕ, drop, get_or, length, take}
use Rattle.buffers.specs.Refusals.{first_fitting}
use Rattle.calls.specs.Orbits.{orbit_call, orbit_lines}
use Rattle.clifford.specs.Clifford.{clifford_of}
use Rattle.calls.specs.Comparisons.{compare_call}
use Rattle.buffers.specs.Calls.{Call}
use Rattle.record.specs.Graph.{Graph, Simple}
use Rattle.record.specs.NeighbourWords.{graph_in}
use Rattle.orbits.specs.Numbers.{graph_at, graph_count, graph_number}
use Rattle.orbits.specs.Orbits.{On, Reached, Rising}
use Rattle.record.specs.Records.{GraphRecord, rows_of}
use Rattle.stabilizer.specs.Groups.{SameGroup}
use Rattle.stabilizer.specs.Lists.{GeneratorList, rows}
use Rattle.claims.specs.ThirdDemand.{AcceptedPair}

-- the call is accepted: 1 to 6 vertices, a word for each with no bit at or above n, a simple graph, a list of 32,768
-- places
pub record OrbitFits (n : ℕ) (neighbours list : List ℕ) : Type 0 where
  pub positive : 1 ≤ n
  pub few : n ≤ 6
  pub words : length neighbours ≡ n
  pub places : length list ≡ 32768
  pub below : (j : ℕ) → j < n → get_or neighbours j 0 < 2 ^ n
  pub simple : Simple n (graph_in neighbours)

-- the first count' places are the list
pub record Listed (n : ℕ) (neighbours list list' : List ℕ) (count' : ℕ) : Type 0 where
  pub rises : Rising (take count' list')
  -- "holds each reachable graph .. and no other"
  pub exactly : (h : ℕ) → On (take count' list') h
      ↔ ((h < graph_count n) × Reached n (graph_in neighbours) (graph_at n h))
  -- "exactly once"
  pub once : (i j : ℕ) → i < count' → j < count' → get_or list' i 0 ≡ get_or list' j 0 → i ≡ j
  -- "those past the count keep their values"
  pub fits : count' ≤ 32768
  pub past : drop count' list' ≡ drop count' list

-- of every accepted call
abbrev pub OrbitsListed : Type 0
OrbitsListed = (n : ℕ) (neighbours list : List ℕ) (count : ℕ) (list' : List ℕ) (count' : ℕ) →
    Call (orbit_call n neighbours list count list' count') 0 → Listed n neighbours list list' count'

-- a graph's plain state: "all codes 0"
abbrev pub plain : Graph → GraphRecord
plain θ = record { graph = θ; codes = λ q. clifford_of 0 }

-- the list describes it
abbrev pub Describes : GeneratorList → Graph → Type 0
Describes l θ = SameGroup l.n l.n (rows l) (rows_of l.n (plain θ))

-- the second graph is on the list of the first exactly if the comparison of two accepted lists that describe their
-- plain states answers 0
abbrev pub SameListExactly : Type 0
SameListExactly = (l m : GeneratorList) (first second list : List ℕ) (count : ℕ) (list' : List ℕ) (count' : ℕ) →
    Call (orbit_call l.n first list count list' count') 0 → first_fitting (orbit_lines l.n second list) ≡ 0 →
    Describes l (graph_in first) → Describes m (graph_in second) →
    (choice vertices : List ℕ) (size r : ℕ) (choice' vertices' : List ℕ) (size' : ℕ) →
    AcceptedPair l m choice vertices → Call (compare_call l m choice vertices size choice' vertices' size') r →
    On (take count' list') (graph_number l.n (graph_in second)) ↔ (r ≡ 0)
