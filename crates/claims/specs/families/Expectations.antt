-- The value of a Pauli row: demand 1, and which arguments it accepts.
use Rattle.std.specs.Prelude.{◌↔◌, ◌≡◌, ◌<◌, ◌^◌, ℕ}
use Rattle.calls.specs.Expectations.{expectation_call}
use Rattle.buffers.specs.Calls.{Call}
use Rattle.operations.specs.Used.{UsedRecord}
use Rattle.claims.specs.Arguments.{IsRecord}
use Rattle.claims.specs.Conforming.{Conforms}

-- demand 1 of each call: its lines stand in the published order, and its answers fill their buffers
pub record ExpectationsConform : Type 0 where
  pub expectations : (u : UsedRecord) (z x value value' : ℕ) → Conforms (expectation_call u z x value value')

-- a record, and a row of its qubits, which may have letters on used ones
abbrev pub ExpectationFits : UsedRecord → ℕ → ℕ → Type 0
ExpectationFits u z x = IsRecord u × (z < 2 ^ u.held.n) × (x < 2 ^ u.held.n)

-- of each call: it is accepted exactly if its arguments fit
pub record ExpectationsAccepted : Type 0 where
  pub expectation : (u : UsedRecord) (z x value value' r : ℕ) → Call (expectation_call u z x value value') r →
      (r ≡ 0) ↔ ExpectationFits u z x
