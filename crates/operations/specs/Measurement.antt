-- Pauli measurements: which are determined, the outcome, and the group afterwards.
use Rattle.std.specs.Prelude.{◌&&◌, Bool, cond, false, not, true, ◌||◌, ◌≡◌, suc, zero, ℕ, eqb}
use Rattle.pauli.specs.Pauli.{Pauli, anticommute, minus, mul, x_bit, z_bit}
use Rattle.pauli.specs.declared.Letter.{Letter}
use Rattle.pauli.specs.declared.Letter.TheVariants.{I, X, Y, Z}
use Rattle.stabilizer.specs.Elimination.{shear}
use Rattle.stabilizer.specs.Groups.{InGroup}
use Rattle.stabilizer.specs.Membership.{member}
use Rattle.words.specs.Bits.{Word, digit, put, ◌⊕◌}
use Rattle.words.specs.Search.{first}
use Rattle.operations.specs.declared.Outcome.{Outcome}
use Rattle.operations.specs.declared.Outcome.TheVariants.{Chosen, Determined}

-- "a Pauli (1 X, 2 Y, 3 Z)"; 0 and numbers above 3 are not used
abbrev pub pauli_letter : ℕ → Letter
pauli_letter zero = I
pauli_letter (suc zero) = X
pauli_letter (suc (suc zero)) = Y
pauli_letter (suc (suc (suc k))) = Z

-- the letter at qubit q alone, with a sign (true means minus)
abbrev pub single : Letter → ℕ → Bool → Pauli
single l q s = record { phase = minus s; z = λ t. eqb t q && z_bit l; x = λ t. eqb t q && x_bit l }

-- ---- the group afterwards: "the elements that commute with the Pauli, joined by the Pauli with that sign"
pub data Measured (n : ℕ) (rows : ℕ → Pauli) (P : Pauli) : Pauli → Type 0 where
  kept : {p : Pauli} → InGroup n n rows p → anticommute n p P ≡ false → Measured n rows P p
  joined : {p : Pauli} → InGroup n n rows p → anticommute n p P ≡ false → Measured n rows P (mul n p P)

-- ---- as functions of the list
-- "If the Pauli or its negative is in the group, the answer says determined"
abbrev pub is_determined : ℕ → (ℕ → Pauli) → Letter → ℕ → Bool
is_determined n rows l q = member n rows (single l q false) || member n rows (single l q true)

-- ".. gives the sign as outcome"; "Otherwise the outcome is the bit (1 means minus)"
abbrev pub outcome : ℕ → (ℕ → Pauli) → Letter → ℕ → Bool → Bool
outcome n rows l q b = cond (is_determined n rows l q) (member n rows (single l q true)) b

-- "a determined outcome contradicts the supplied bit": "where bit and sign differ" (02, §4)
abbrev pub contradicts : ℕ → (ℕ → Pauli) → Letter → ℕ → Bool → Bool
contradicts n rows l q b = is_determined n rows l q && (outcome n rows l q b ⊕ b)

-- what a measurement answers
abbrev pub measured_outcome : ℕ → (ℕ → Pauli) → Letter → ℕ → Bool → Outcome
measured_outcome n rows l q b =
    cond (is_determined n rows l q) (Determined (outcome n rows l q b)) (Chosen (outcome n rows l q b))

-- an answer in numbers: the outcome, 1 for minus
abbrev pub outcome_number : Outcome → ℕ
outcome_number (Determined s) = digit s
outcome_number (Chosen s) = digit s

-- and 1 where it was determined, else 0
abbrev pub determined_number : Outcome → ℕ
determined_number (Determined s) = 1
determined_number (Chosen s) = 0

-- the rows other than row g that do not commute with P
abbrev pub against : ℕ → (ℕ → Pauli) → Pauli → ℕ → Word
against n rows P g j = anticommute n (rows j) P && not (eqb j g)

-- generators of the group afterwards where P is not determined: row g, which does not commute with P, goes into the
-- others that do not, and P takes its place
abbrev pub projected : ℕ → (ℕ → Pauli) → Pauli → ℕ → ℕ → Pauli
projected n rows P g = put (shear n rows g (against n rows P g)) g P

-- the first row that does not commute with P
abbrev pub first_against : ℕ → (ℕ → Pauli) → Pauli → ℕ
first_against n rows P = first n (λ i. anticommute n (rows i) P)

-- ".. and keeps the group"; otherwise P, with the sign of the bit, joins
abbrev pub measured_rows : ℕ → (ℕ → Pauli) → Letter → ℕ → Bool → ℕ → Pauli
measured_rows n rows l q b =
    cond (is_determined n rows l q) rows
    (projected n rows (single l q b) (first_against n rows (single l q b)))
