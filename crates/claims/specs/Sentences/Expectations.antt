-- What the documents say of the exported function that answers the value of a row, in one record: demand 1, which
-- arguments it accepts, and the sentences that speak of its answer.
use Rattle.std.specs.Prelude.{◌↔◌, ◌≡◌, ℕ}
use Rattle.calls.specs.Expectations.{expectation_call}
use Rattle.operations.specs.Used.{UsedRecord}
use Rattle.claims.specs.Conforming.{Answered}
use Rattle.claims.specs.ExpectationDemand.{ExpectationAnswer}
use Rattle.claims.specs.families.Expectations.{ExpectationFits}
use Rattle.buffers.specs.Sentences.{FirstTrue}
use Rattle.claims.specs.Numbers.{with_row_sentences}

-- sukhlent_expectation: demand 1; the answer is one of three, by membership in the group
pub record ExpectationSays (u : UsedRecord) (z x value value' r : ℕ) : Type 0 where
  pub answered : Answered (expectation_call u z x value value') r
  pub accepted : (r ≡ 0) ↔ ExpectationFits u z x
  pub numbers : FirstTrue (with_row_sentences u z x) r
  pub answer : r ≡ 0 → ExpectationAnswer u.held z x value'
