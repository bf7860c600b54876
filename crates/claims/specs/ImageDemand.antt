-- Demand 2, of the public call on the image of a graph: "images follow the same definition".
use Rattle.std.specs.Prelude.{false, ◌||◌, List, ◌↔◌, ◌⊎◌, ◌≡◌, ◌*◌, ◌/◌, ◌<◌, ℕ, ◌≤◌, eqb, drop, get_or, length, take}
use Rattle.buffers.specs.Refusals.{first_fitting, other_than}
use Rattle.record.specs.Graph.{Simple, graph_generator}
use Rattle.record.specs.NeighbourWords.{graph_in}
use Rattle.image.specs.Image.{UnsignedGraph}
use Rattle.image.specs.Rule.{image_list}
use Rattle.pauli.specs.Pauli.{Pauli, minus, scaled}
use Rattle.record.specs.Lent.{LentRecord, held_record, held_rows, record_lines}
use Rattle.stabilizer.specs.Groups.{SameGroup}
use Rattle.buffers.specs.Calls.{Call}
use Rattle.calls.specs.Images.{image_call}
use Rattle.claims.specs.ThirdDemand.{complement_each}

-- the generators of a graph with "one minus sign bit per vertex"
abbrev pub signed_generators : List ℕ → List ℕ → ℕ → Pauli
signed_generators neighbours signs j =
    scaled (minus (eqb (get_or signs j 0) 1)) (graph_generator (graph_in neighbours) j)

-- what comes back
pub record ImageStands (l : LentRecord) (list image' signs' list' : List ℕ) (count' : ℕ) : Type 0 where
  -- "The graph is simple: symmetric, no vertex its own neighbour"
  pub simple : Simple l.n (graph_in image')
  -- the image group with its signs is the group of the image graph with its minus signs
  pub group : SameGroup l.n l.n (held_rows l) (signed_generators image' signs')
  pub bits : (j : ℕ) → j < l.n → get_or signs' j 0 < 2
  -- the list is the rule's, and "the list's lent bytes past it keep their values"
  pub vertices : take count' list' ≡ image_list l.n (held_record l)
  pub past : drop count' list' ≡ drop count' list
  -- "the list must lead to the graph"
  pub leads : (i j : ℕ) →
      complement_each (held_record l).graph (take count' list') i j ≡ graph_in image' i j
  -- "Its count is the number of complementations done", which fit into the buffer
  pub amount : count' ≡ length (image_list l.n (held_record l))
  pub few : count' ≤ 3 * l.n / 2

-- which records are refused by 11 or 12, and what comes back otherwise
pub record ImageDecided (l : LentRecord) (list : List ℕ) (r : ℕ) (image' signs' list' : List ℕ) (count' : ℕ) : Type
    0 where
  -- "One of lines 11 and 12 holds exactly when the image group, signs dropped, is that of no simple graph"
  pub exactly : ((r ≡ 11) ⊎ (r ≡ 12)) ↔ (UnsignedGraph l.n (held_rows l) → ⊥)
  pub otherwise : (r ≡ 11 → ⊥) → (r ≡ 12 → ⊥) → (r ≡ 0) × ImageStands l list image' signs' list' count'

-- for every record and whatever the lent buffers held, where none of lines 2 to 7 holds
abbrev pub ImagesFollow : Type 0
ImagesFollow =
    (l : LentRecord) (image signs list : List ℕ) (count r : ℕ) (image' signs' list' : List ℕ) (count' : ℕ) →
    Call (image_call l image signs list count image' signs' list' count') r →
    first_fitting (record_lines l (other_than l.n image
    || (other_than l.n signs || other_than 96 list)) false) ≡ 0 →
    ImageDecided l list r image' signs' list' count'
