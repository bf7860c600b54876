-- The amplitudes of a record: demand 1, and which arguments the call accepts. Its lines read none of the three floats.
use Rattle.std.specs.Prelude.{◌↔◌, ◌≡◌, ◌<◌, ◌^◌, ℕ}
use Rattle.calls.specs.Amplitudes.{amplitude_call}
use Rattle.buffers.specs.Calls.{Call}
use Rattle.operations.specs.Used.{UsedRecord}
use Rattle.claims.specs.Arguments.{IsRecord}
use Rattle.claims.specs.Conforming.{Conforms}

-- demand 1 of each call: its lines stand in the published order, and its answers fill their buffers
pub record AmplitudesConform : Type 0 where
  pub amplitudes : (u : UsedRecord) (y re im p re' im' p' : ℕ) →
      Conforms (amplitude_call u y re im p re' im' p')

-- a record and "a word y below 2^n"
abbrev pub AmplitudeFits : UsedRecord → ℕ → Type 0
AmplitudeFits u y = IsRecord u × (y < 2 ^ u.held.n)

-- of each call: it is accepted exactly if its arguments fit
pub record AmplitudesAccepted : Type 0 where
  pub amplitude : (u : UsedRecord) (y re im p re' im' p' r : ℕ) →
      Call (amplitude_call u y re im p re' im' p') r → (r ≡ 0) ↔ AmplitudeFits u y
