-- What the documents say of the exported function on amplitudes, in one record: demand 1, which arguments it accepts,
-- and the sentences of the request that speak of its answer.
use Rattle.std.specs.Prelude.{◌↔◌, ◌≡◌, ℕ}
use Rattle.calls.specs.Amplitudes.{amplitude_call}
use Rattle.record.specs.Lent.{held_rows}
use Rattle.operations.specs.Used.{UsedRecord}
use Rattle.claims.specs.AmplitudeDemand.{AmplitudeAnswer, float_in}
use Rattle.claims.specs.Conforming.{Answered}
use Rattle.claims.specs.families.Amplitudes.{AmplitudeFits}
use Rattle.buffers.specs.Sentences.{FirstTrue}
use Rattle.claims.specs.Numbers.{with_word_sentences}

-- of amplitude: demand 1, bit for bit, and that the floats answered are the state that the group fixes
pub record AmplitudeSays (u : UsedRecord) (y re im p re' im' p' r : ℕ) : Type 0 where
  pub answered : Answered (amplitude_call u y re im p re' im' p') r
  pub accepted : (r ≡ 0) ↔ AmplitudeFits u y
  pub numbers : FirstTrue (with_word_sentences u y) r
  pub answer : r ≡ 0 → AmplitudeAnswer u.held.n (held_rows u.held) y (float_in re') (float_in im') (float_in p')
