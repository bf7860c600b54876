-- What the demands say of the exported function that generates jobs, from its contract.
use mathlib.Core.List.{List}
use Prim.Native.Nat.{ℕ}
use Rattle.calls.specs.Generation.{generate_call}
use Rattle.buffers.specs.Calls.{Call}
use Rattle.claims.proofs.GeneratorDemandHolds.{generator-demand}
use Rattle.claims.proofs.families.Generator.{generations-accepted, generations-conform}
use Rattle.claims.proofs.families.Shared.{answered, at_zero}
use Rattle.claims.specs.Sentences.Generator.{GenerateSays}
use Rattle.claims.proofs.NumbersHold.{generate-words, in_words}
use Rattle.claims.specs.Numbers.{generate_sentences}

pub generate-says : (n count seed : ℕ) (text : List ℕ) (size : ℕ) (text' : List ℕ) (size' r : ℕ) →
    Call (generate_call n count seed text size text' size') r → GenerateSays n count seed text size text' size' r
generate-says n count seed text size text' size' r C =
    record {
      answered = answered (generations-conform.generations n count seed text size text' size') C;
      accepted = generations-accepted.generate n count seed text size text' size' r C;
      numbers = in_words (generate_sentences n count seed text) (generate-words n count seed text) C;
      back = λ z. generator-demand n count seed text size text' size' (at_zero C z);
    }
