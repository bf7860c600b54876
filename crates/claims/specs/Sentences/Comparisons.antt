-- What the documents say of the exported function that compares, in one record: demand 1, which arguments it
-- accepts, and the sentences of the demands and of the requests that speak of its answer.
use Rattle.std.specs.Prelude.{List, ◌↔◌, ◌⊎◌, ◌≡◌, ℕ, ◌≤◌}
use Rattle.buffers.specs.Refusals.{first_fitting}
use Rattle.calls.specs.Comparisons.{compare_call}
use Rattle.comparison.specs.Compared.{pair_lines}
use Rattle.stabilizer.specs.Lists.{GeneratorList}
use Rattle.claims.specs.Conforming.{Answered}
use Rattle.claims.specs.PartsDemand.{DecidedByParts, LargePart, SmallParts}
use Rattle.claims.specs.ThirdDemand.{AcceptedPair, Decided}
use Rattle.claims.specs.families.Comparisons.{CompareFits}
use Rattle.buffers.specs.Sentences.{FirstTrue}
use Rattle.claims.specs.Numbers.{compare_sentences}

-- sukhlent_compare: demands 1 and 3, and refusal 3 (02, §9)
pub record CompareSays (l m : GeneratorList) (choice list : List ℕ) (count : ℕ) (choice' list' : List ℕ)
    (count' r : ℕ) : Type 0 where
  pub answered : Answered (compare_call l m choice list count choice' list' count') r
  pub accepted : (r ≡ 0) ↔ CompareFits l m choice list
  pub numbers : FirstTrue (compare_sentences l m choice list) r
  -- demand 3 word for word; and for n up to 64 where no part is larger than 20 (02, §9)
  pub to-20 : AcceptedPair l m choice list → l.n ≤ 20 → Decided l m list r choice' list' count'
  pub decided : first_fitting (pair_lines l m choice list) ≡ 0 → SmallParts l → SmallParts m →
      Decided l m list r choice' list' count'
  pub large : first_fitting (pair_lines l m choice list) ≡ 0 → (r ≡ 3) ↔ (LargePart l ⊎ LargePart m)
  pub parts : DecidedByParts l m choice list r
