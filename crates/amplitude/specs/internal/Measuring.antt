-- The smallest supported word by measurements: Z at each qubit from the last down, with outcome 0 where it is possible.
use Rattle.std.specs.Prelude.{false, ◌≡◌, ◌-◌, ◌<◌, suc, zero, ℕ, ◌≤◌}
use Rattle.operations.specs.Measurement.{contradicts, measured_rows}
use Rattle.pauli.specs.Pauli.{Pauli}
use Rattle.pauli.specs.declared.Letter.TheVariants.{Z}
use Rattle.record.specs.Records.{GraphRecord, rows_of}
use Rattle.record.specs.Reduced.{reduced}
use Rattle.stabilizer.specs.Groups.{Proper, SameGroup}
use Rattle.words.specs.Bits.{Word}

-- lists with the groups after 0, 1 .. n measurements: at n - 1, n - 2 .. 0; the outcome is 1 only where 0 is forbidden
pub record MeasuredDown (n : ℕ) (R : ℕ → Pauli) (lists : ℕ → ℕ → Pauli) (outcomes : Word) : Type 0 where
  pub proper : (k : ℕ) → k ≤ n → Proper n (lists k)
  pub start : SameGroup n n R (lists 0)
  pub outcome : (k : ℕ) → k < n → outcomes (n - suc k) ≡ contradicts n (lists k) Z (n - suc k) false
  pub each : (k : ℕ) → k < n
      → SameGroup n n (measured_rows n (lists k) Z (n - suc k) (outcomes (n - suc k))) (lists (suc k))

-- ---- on records
-- the record after k of these measurements, each answered by the reduced record
unfoldable pub records_down : ℕ → GraphRecord → ℕ → GraphRecord
records_down n r zero = r
records_down n r (suc k) = reduced n (measured_rows n (rows_of n (records_down n r k)) Z (n - suc k)
    (contradicts n (rows_of n (records_down n r k)) Z (n - suc k) false))

-- the outcome at q, once the qubits above it are measured: 1 only where 0 is forbidden
unfoldable pub outcomes_down : ℕ → GraphRecord → Word
outcomes_down n r q = contradicts n (rows_of n (records_down n r (n - suc q))) Z q false
