-- A group has one reduced record: whatever list it comes from.
use mathlib.Core.Path.{sym, ◌∙◌, ◌≡◌}
use Prim.Native.Nat.{ℕ}
use Rattle.pauli.specs.Pauli.{Pauli}
use Rattle.stabilizer.proofs.GroupLaws.{same-sym, same-trans}
use Rattle.stabilizer.specs.Groups.{SameGroup}
use Rattle.record.proofs.ColumnLaws.{dependent-same}
use Rattle.record.proofs.Equation.{equation}
use Rattle.record.specs.Records.{GraphRecord, SameRecord}
use Rattle.record.specs.Reduced.{ReductionOf}

-- records that agree are equal
pub record-path : (r s : GraphRecord) → SameRecord r s → r ≡ s
record-path r s E = λ i. record { graph = λ j q. E.neighbours j q i; codes = λ q. E.code q i }

-- the reduced record of a list is that of every list with the same group
pub reduced-carried : (n : ℕ) (rows others : ℕ → Pauli) (r : GraphRecord) → SameGroup n n rows others
    → ReductionOf n rows r → ReductionOf n others r
reduced-carried n rows others r E R =
    record {
      simple = R.simple;
      hadamards = R.hadamards;
      ys = R.ys;
      minuses = R.minuses;
      code = R.code;
      rotated = λ q l. (
        (λ e. dependent-same n rows others E.back q ((R.rotated q l).0 e)),
        (λ D. (R.rotated q l).1 (dependent-same n others rows E.there q D)),
      );
      above = R.above;
      group = same-trans (same-sym E) R.group;
    }

pub reduced-unique : (n : ℕ) (rows others : ℕ → Pauli) (r s : GraphRecord) → SameGroup n n rows others
    → ReductionOf n rows r → ReductionOf n others s → r ≡ s
reduced-unique n rows others r s E R Q =
    sym (record-path _ r (equation n others r (reduced-carried n rows others r E R)))
    ∙ record-path _ s (equation n others s Q)
