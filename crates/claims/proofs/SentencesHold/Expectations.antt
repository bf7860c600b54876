-- What the demands say of the exported function that answers the value of a row, from its contract.
use Prim.Native.Nat.{ℕ}
use Rattle.calls.specs.Expectations.{expectation_call}
use Rattle.buffers.specs.Calls.{Call}
use Rattle.operations.specs.Used.{UsedRecord}
use Rattle.claims.proofs.ExpectationDemandHolds.{expectations-answer}
use Rattle.claims.proofs.families.Expectations.{expectations-accepted, expectations-conform}
use Rattle.claims.proofs.families.Shared.{answered, at_zero}
use Rattle.claims.specs.Sentences.Expectations.{ExpectationSays}
use Rattle.claims.proofs.NumbersHold.{expectation-words, in_words}
use Rattle.claims.specs.Numbers.{with_row_sentences}

pub expectation-says : (u : UsedRecord) (z x value value' r : ℕ) → Call (expectation_call u z x value value') r →
    ExpectationSays u z x value value' r
expectation-says u z x value value' r C =
    record {
      answered = answered (expectations-conform.expectations u z x value value') C;
      accepted = expectations-accepted.expectation u z x value value' r C;
      numbers = in_words (with_row_sentences u z x) (expectation-words u z x) C;
      answer = λ e. expectations-answer u z x value value' (at_zero C e);
    }
