-- The smallest supported word of a record: the outcomes of measurements on the record itself.
use mathlib.Core.Bool.{false}
use mathlib.Core.Path.{◌≡◌, ap, subst, sym}
use Prim.Native.Nat.{◌-◌, ◌<◌, suc, zero, ℕ, ◌≤◌}
use native.Mathlib.Omega.{arith}
use Rattle.record.specs.Graph.{Simple}
use Rattle.operations.proofs.Determined.{measured-proper}
use Rattle.operations.specs.Measurement.{contradicts, measured_rows}
use Rattle.pauli.specs.Pauli.{Pauli}
use Rattle.pauli.specs.declared.Letter.TheVariants.{Z}
use Rattle.record.proofs.ReducedRecords.{record-proper, reduced-is, same-group}
use Rattle.record.specs.Records.{GraphRecord, rows_of}
use Rattle.stabilizer.proofs.GroupLaws.{same_refl}
use Rattle.stabilizer.specs.Groups.{Proper, SameGroup}
use Rattle.words.specs.Bits.{word_of}
use Rattle.amplitude.proofs.LowestWord.{lowest-by-measuring}
use Rattle.amplitude.specs.internal.Measuring.{MeasuredDown, outcomes_down, records_down}
use Rattle.amplitude.specs.Ratios.{lowest}

module _ (n : ℕ) (r : GraphRecord) (S : Simple n r.graph) where
  abbrev rows : ℕ → ℕ → Pauli
  rows k = rows_of n (records_down n r k)

  -- the next list, with the outcome that is taken
  abbrev next : ℕ → ℕ → Pauli
  next k = measured_rows n (rows k) Z (n - suc k) (contradicts n (rows k) Z (n - suc k) false)

  next-proper : (k : ℕ) → k < n → Proper n (rows k) → Proper n (next k)
  next-proper k l P = measured-proper n (rows k) P Z (n - suc k) (omega arith)
      (contradicts n (rows k) Z (n - suc k) false)

  rows-proper : (k : ℕ) → k ≤ n → Proper n (rows k)
  unfolding records_down
  rows-proper zero l = record-proper n r S
  rows-proper (suc k) l = record-proper n (records_down n r (suc k))
      (reduced-is n (next k) (next-proper k l (rows-proper k (omega arith)))).simple

  outcome-is : (k : ℕ) → k < n → outcomes_down n r (n - suc k) ≡ contradicts n (rows k) Z (n - suc k) false
  unfolding outcomes_down
  outcome-is k l = let e : n - suc (n - suc k) ≡ k = omega arith in
      ap (λ m. contradicts n (rows m) Z (n - suc k) false) e

  each-group : (k : ℕ) → k < n → SameGroup n n (next k) (rows (suc k))
  unfolding records_down
  each-group k l = same-group n (next k) (next-proper k l (rows-proper k (omega arith)))

  start-group : SameGroup n n (rows_of n r) (rows 0)
  unfolding records_down
  start-group = same_refl

  measured-down : MeasuredDown n (rows_of n r) rows (outcomes_down n r)
  measured-down =
      record {
        proper = rows-proper;
        start = start-group;
        outcome = outcome-is;
        each = λ k l. subst (λ b. SameGroup n n (measured_rows n (rows k) Z (n - suc k) b) (rows (suc k)))
            (sym (outcome-is k l)) (each-group k l);
      }

  pub lowest-of-record : lowest n (rows_of n r) ≡ word_of n (outcomes_down n r)
  lowest-of-record = lowest-by-measuring n (rows_of n r) rows (outcomes_down n r) measured-down
