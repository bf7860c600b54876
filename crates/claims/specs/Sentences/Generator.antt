-- What the documents say of the exported function that generates jobs, in one record: demand 1, which arguments it
-- accepts, and the sentences of the demands and of the requests that speak of its answer.
use Rattle.std.specs.Prelude.{List, ◌↔◌, ◌≡◌, ℕ}
use Rattle.calls.specs.Generation.{generate_call}
use Rattle.claims.specs.Conforming.{Answered}
use Rattle.claims.specs.GeneratorDemand.{JobGenerated}
use Rattle.claims.specs.families.Generator.{GenerateFits}
use Rattle.buffers.specs.Sentences.{FirstTrue}
use Rattle.claims.specs.Numbers.{generate_sentences}

-- sukhlent_generate: demand 1, and that the text reads back (02, §6)
pub record GenerateSays (n count seed : ℕ) (text : List ℕ) (size : ℕ) (text' : List ℕ) (size' r : ℕ) : Type 0 where
  pub answered : Answered (generate_call n count seed text size text' size') r
  pub accepted : (r ≡ 0) ↔ GenerateFits n count seed text
  pub numbers : FirstTrue (generate_sentences n count seed text) r
  pub back : r ≡ 0 → JobGenerated n count seed text text' size'
