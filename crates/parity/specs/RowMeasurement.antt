-- Measurements of Pauli rows of any weight, sign plus: which are determined, the outcome, and the group afterwards.
use Rattle.std.specs.Prelude.{Bool, cond, false, ℕ, eqb}
use Rattle.expectation.specs.Values.{stabilizer_value}
use Rattle.operations.specs.Measurement.{first_against, projected}
use Rattle.operations.specs.declared.Outcome.{Outcome}
use Rattle.operations.specs.declared.Outcome.TheVariants.{Chosen, Determined}
use Rattle.pauli.specs.Pauli.{Pauli, signed_row}

-- the row's value in the group: 0 where it is an element, 1 where its negative is, 2 where neither is
abbrev pub row_value : ℕ → (ℕ → Pauli) → ℕ → ℕ → ℕ
row_value n rows z x = stabilizer_value n rows (signed_row false z x)

-- what is answered: "determined exactly if the row or its negative is in the group", with its sign; "otherwise the
-- outcome is the bit"
abbrev pub row_outcome : ℕ → (ℕ → Pauli) → ℕ → ℕ → Bool → Outcome
row_outcome n rows z x b =
    cond (eqb (row_value n rows z x) 2) (Chosen b) (Determined (eqb (row_value n rows z x) 1))

-- generators of the group afterwards: those before where it is determined; otherwise of "the elements that commute with
-- the row, joined by the row with that sign"
abbrev pub row_measured : ℕ → (ℕ → Pauli) → ℕ → ℕ → Bool → ℕ → Pauli
row_measured n rows z x b =
    cond (eqb (row_value n rows z x) 2)
    (projected n rows (signed_row b z x) (first_against n rows (signed_row b z x))) rows
