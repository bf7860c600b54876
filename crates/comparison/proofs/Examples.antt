-- Worked examples of the least choice, on one qubit.
use mathlib.Core.List.{List, [], ◌∷◌}
use mathlib.Core.Path.{refl, ◌≡◌}
use Prim.Native.Nat.{ℕ}
use Rattle.clifford.specs.Vectors.{act}
use Rattle.pauli.specs.Pauli.{Pauli, mul}
use Rattle.stabilizer.specs.Lists.{rows}
use Rattle.stabilizer.specs.Membership.{member}
use Rattle.words.specs.Bits.{bit, fold, put, word_of}
use Rattle.words.specs.Search.{every, first, some}
use Rattle.comparison.specs.Choices.{is_carrying, choice, least_code, least_number}

-- one generator on one qubit
abbrev one : ℕ → ℕ → ℕ → ℕ → Pauli
one s z x = rows (record { n = 1; signs = s ∷ []; z = z ∷ []; x = x ∷ [] })

abbrev given : List ℕ
given =
    -- +Y to +X, +X to +Y, +Z to +Y, +X to -X, +X to -Z, +Z to -Z
    least_code 1 (one 0 1 1) (one 0 0 1) 0 ∷ least_code 1 (one 0 0 1) (one 0 1 1) 0 ∷ least_code 1 (one 0 1 0) (one 0 1 1)
    0
    ∷ least_code 1 (one 0 0 1) (one 1 0 1) 0 ∷ least_code 1 (one 0 0 1) (one 1 1 0) 0
    ∷ least_code 1 (one 0 1 0) (one 1 1 0) 0 ∷ []

pub choice-examples : given ≡ (5 ∷ 4 ∷ 12 ∷ 2 ∷ 10 ∷ 1 ∷ [])
unfolding is_carrying member act mul fold put bit word_of some every first choice least_number
choice-examples = refl
