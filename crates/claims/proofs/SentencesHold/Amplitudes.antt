-- What the demands say of the exported function on amplitudes, from its contract.
use Prim.Native.Nat.{ℕ}
use Rattle.calls.specs.Amplitudes.{amplitude_call}
use Rattle.buffers.specs.Calls.{Call}
use Rattle.operations.specs.Used.{UsedRecord}
use Rattle.claims.proofs.AmplitudeDemandHolds.{amplitudes-answer}
use Rattle.claims.proofs.families.Amplitudes.{amplitudes-accepted, amplitudes-conform}
use Rattle.claims.proofs.families.Shared.{answered, at_zero}
use Rattle.claims.specs.Sentences.Amplitudes.{AmplitudeSays}
use Rattle.claims.proofs.NumbersHold.{amplitude-words, in_words}
use Rattle.claims.specs.Numbers.{with_word_sentences}

pub amplitude-says : (u : UsedRecord) (y re im p re' im' p' r : ℕ) →
    Call (amplitude_call u y re im p re' im' p') r → AmplitudeSays u y re im p re' im' p' r
amplitude-says u y re im p re' im' p' r C =
    record {
      answered = answered (amplitudes-conform.amplitudes u y re im p re' im' p') C;
      accepted = amplitudes-accepted.amplitude u y re im p re' im' p' r C;
      numbers = in_words (with_word_sentences u y) (amplitude-words u y) C;
      answer = λ z. amplitudes-answer u y re im p re' im' p' (at_zero C z);
    }
