-- Demand 3, of the public call that compares two generator lists.
use Rattle.std.specs.Prelude.{List, [], ◌∷◌, ◌↔◌, ◌≡◌, ◌*◌, ◌/◌, ◌<◌, ℕ, ◌≤◌, drop, get_or, length, take}
use Rattle.buffers.specs.Refusals.{first_fitting}
use Rattle.clifford.specs.Clifford.{Clifford}
use Rattle.clifford.specs.Vectors.{codes_of}
use Rattle.comparison.specs.Choices.{LeastChoice}
use Rattle.comparison.specs.Compared.{induced, pair_lines}
use Rattle.record.specs.Graph.{Graph, complement}
use Rattle.image.specs.Rule.{image_list}
use Rattle.record.specs.Reduced.{reduced_graph}
use Rattle.stabilizer.specs.Carries.{Carries}
use Rattle.stabilizer.specs.Lists.{GeneratorList, rows}
use Rattle.calls.specs.Lists.{check_lines}
use Rattle.buffers.specs.Calls.{Call}
use Rattle.calls.specs.Comparisons.{compare_call}
use Rattle.claims.specs.PartsDemand.{SmallParts}

-- "Done one after another": the graph complemented at each vertex of a list
abbrev pub complement_each : Graph → List ℕ → Graph
complement_each θ [] = θ
complement_each θ (v ∷ vs) = complement_each (complement θ v) vs

-- "the list of local complementations that document 01's image rule makes", for a choice as a buffer holds it
abbrev pub list_under : GeneratorList → GeneratorList → List ℕ → List ℕ
list_under l m choice =
    image_list l.n (record {
      graph = reduced_graph l.n (rows l);
      codes = induced l.n (rows l) (rows m) (codes_of choice);
    })

-- what comes back where some choice carries the first group onto the second
pub record ComesBack (l m : GeneratorList) (list choice' list' : List ℕ) (count' : ℕ) : Type 0 where
  pub places : length choice' ≡ l.n
  pub codes : (q : ℕ) → q < l.n → get_or choice' q 0 < 24
  -- "the least choice that does so, in document 01's order"
  pub least : LeastChoice l.n (rows l) (rows m) (codes_of choice')
  -- the list, past which the lent bytes keep their values, "and, as its count, their number"
  pub vertices : take count' list' ≡ list_under l m choice'
  pub past : drop count' list' ≡ drop count' list
  pub amount : count' ≡ length (list_under l m choice')
  -- "which is at most 3n/2, rounded down"
  pub few : count' ≤ 3 * l.n / 2
  -- "Done one after another, they turn the reduced graph of the first generator list into that of the second"
  pub leads : (i j : ℕ) →
      complement_each (reduced_graph l.n (rows l)) (take count' list') i j ≡ reduced_graph m.n (rows m) i j

-- "the comparison refuses them as not equivalent exactly when none of the 24^n choices of a local Clifford per
-- qubit carries the first signed group onto the second. Otherwise .."
pub record Decided (l m : GeneratorList) (list : List ℕ) (r : ℕ) (choice' list' : List ℕ) (count' : ℕ) : Type
    0 where
  pub exactly : (r ≡ 13) ↔ ((c : ℕ → Clifford) → Carries l.n c (rows l) (rows m) → ⊥)
  pub otherwise : (r ≡ 13 → ⊥) → (r ≡ 0) × ComesBack l m list choice' list' count'

-- "For every two generator lists, and whatever the lent answer buffers held": "lists and buffers are accepted where
-- none of lines 2 to 10 below holds of the lists, nor line 4 of the buffers"; and "demand 3 holds for n up to 64 where
-- no part is larger than 20" (02, §9)
abbrev pub ThirdDemand : Type 0
ThirdDemand =
    (l m : GeneratorList) (choice list : List ℕ) (count r : ℕ) (choice' list' : List ℕ) (count' : ℕ) →
    Call (compare_call l m choice list count choice' list' count') r → first_fitting (pair_lines l m choice list) ≡ 0 →
    SmallParts l → SmallParts m → Decided l m list r choice' list' count'

-- "if lists and buffers are accepted, and the lists describe states on the same number n of qubits"; an accepted list
-- has n from 1 to 64
pub record AcceptedPair (l m : GeneratorList) (choice list : List ℕ) : Type 0 where
  pub first : first_fitting (check_lines l) ≡ 0
  pub second : first_fitting (check_lines m) ≡ 0
  pub same_count : l.n ≡ m.n
  pub choice-places : length choice ≡ l.n
  pub list-places : length list ≡ 96

-- then none of lines 2 to 10 holds of the pair
abbrev pub NoLineHolds : Type 0
NoLineHolds =
    (l m : GeneratorList) (choice list : List ℕ) → AcceptedPair l m choice list →
    first_fitting (pair_lines l m choice list) ≡ 0

-- demand 3 word for word, "n from 1 to 20": without a hypothesis on parts
abbrev pub ThirdDemandTo20 : Type 0
ThirdDemandTo20 =
    (l m : GeneratorList) (choice list : List ℕ) (count r : ℕ) (choice' list' : List ℕ) (count' : ℕ) →
    Call (compare_call l m choice list count choice' list' count') r → AcceptedPair l m choice list → l.n ≤ 20 →
    Decided l m list r choice' list' count'
