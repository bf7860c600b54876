-- The comparison of two lists: demand 1, and which arguments it accepts.
use Rattle.std.specs.Prelude.{List, ◌↔◌, ◌≡◌, ℕ, length}
use Rattle.buffers.specs.Refusals.{first_fitting}
use Rattle.calls.specs.Comparisons.{compare_call}
use Rattle.clifford.specs.Clifford.{Clifford}
use Rattle.comparison.specs.Compared.{compare_lines}
use Rattle.buffers.specs.Calls.{Call}
use Rattle.stabilizer.specs.Carries.{Carries}
use Rattle.stabilizer.specs.Lists.{GeneratorList, rows}
use Rattle.claims.specs.Arguments.{IsList}
use Rattle.claims.specs.Conforming.{Conforms}
use Rattle.claims.specs.PartsDemand.{SmallParts}

-- demand 1 of each call: its lines stand in the published order, and its answers fill their buffers
pub record ComparisonsConform : Type 0 where
  pub comparisons : (l m : GeneratorList) (choice list : List ℕ) (count : ℕ) (choice' list' : List ℕ)
      (count' : ℕ) → Conforms (compare_call l m choice list count choice' list' count')

-- what a buffer lent only for the answer holds makes no line true
pub record ComparisonBuffersUnread : Type 0 where
  pub comparisons : (l m : GeneratorList) (choice list choice₂ list₂ : List ℕ) → length choice ≡ length choice₂ →
      length list ≡ length list₂ →
      first_fitting (compare_lines l m choice list) ≡ first_fitting (compare_lines l m choice₂ list₂)

-- two lists on one number of qubits, no part larger than 20, and some choice that carries the first group onto the
-- second
pub record CompareFits (l m : GeneratorList) (choice list : List ℕ) : Type 0 where
  pub first : IsList l
  pub second : IsList m
  pub same_count : l.n ≡ m.n
  pub choice-places : length choice ≡ l.n
  pub list-places : length list ≡ 96
  pub small-first : SmallParts l
  pub small-second : SmallParts m
  pub equivalent : (c : ℕ → Clifford) × Carries l.n c (rows l) (rows m)

-- of each call: it is accepted exactly if its arguments fit
pub record ComparisonsAccepted : Type 0 where
  pub compare : (l m : GeneratorList) (choice list : List ℕ) (count : ℕ) (choice' list' : List ℕ) (count' r : ℕ) →
      Call (compare_call l m choice list count choice' list' count') r → (r ≡ 0) ↔ CompareFits l m choice list
