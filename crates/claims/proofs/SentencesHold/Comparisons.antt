-- What the demands say of the exported function that compares, from its contract.
use mathlib.Core.List.{List}
use Prim.Native.Nat.{ℕ}
use Rattle.calls.specs.Comparisons.{compare_call}
use Rattle.buffers.specs.Calls.{Call}
use Rattle.stabilizer.specs.Lists.{GeneratorList}
use Rattle.claims.proofs.ComparedByParts.{compared-by-parts}
use Rattle.claims.proofs.PartsDemandHolds.{large-parts-refused}
use Rattle.claims.proofs.ThirdDemandHolds.{third-demand, third-demand-to-20}
use Rattle.claims.proofs.families.Comparisons.{comparisons-accepted, comparisons-conform}
use Rattle.claims.proofs.families.Shared.{answered}
use Rattle.claims.specs.Sentences.Comparisons.{CompareSays}
use Rattle.claims.proofs.NumbersHold.{compare-words, in_words}
use Rattle.claims.specs.Numbers.{compare_sentences}

pub compare-says : (l m : GeneratorList) (choice list : List ℕ) (count : ℕ) (choice' list' : List ℕ) (count' r : ℕ) →
    Call (compare_call l m choice list count choice' list' count') r →
    CompareSays l m choice list count choice' list' count' r
compare-says l m choice list count choice' list' count' r C =
    record {
      answered = answered (comparisons-conform.comparisons l m choice list count choice' list' count') C;
      accepted = comparisons-accepted.compare l m choice list count choice' list' count' r C;
      numbers = in_words (compare_sentences l m choice list) (compare-words l m choice list) C;
      to-20 = third-demand-to-20 l m choice list count r choice' list' count' C;
      parts = compared-by-parts l m choice list count r choice' list' count' C;
      large = large-parts-refused l m choice list count r choice' list' count' C;
      decided = third-demand l m choice list count r choice' list' count' C;
    }
