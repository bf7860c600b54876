-- Worked examples: the amplitudes of small states, as the definitions give them.
use mathlib.Core.Bool.{cond, false, true}
use mathlib.Core.List.{List, [], ◌∷◌, map}
use mathlib.Core.Path.{◌≡◌, refl}
use Prim.Native.Nat.{ℕ, zero, suc}
use Rattle.clifford.specs.Vectors.{act}
use Rattle.pauli.specs.Pauli.{Pauli, exponent, identity, mul, signed_row}
use Rattle.record.specs.Lent.{held_rows, lent_record}
use Rattle.words.specs.Bits.{bit, fold}
use Rattle.words.specs.Search.{every, first, some}
use Rattle.amplitude.specs.Ratios.{leading, ratio, is_supported}
use Rattle.amplitude.specs.Turns.{turns_at}

-- the exponent of i at a word, 0 to 3; 4 where the answer is nothing
abbrev at : ℕ → (ℕ → Pauli) → ℕ → ℕ
at n R y = cond (is_supported n R y) (exponent (ratio n R y)) 4

abbrev four : List ℕ
four = 0 ∷ 1 ∷ 2 ∷ 3 ∷ []

-- two generators
abbrev both : Pauli → Pauli → ℕ → Pauli
both p r zero = p
both p r (suc j) = r

abbrev edge : ℕ → ℕ → ℕ → Pauli
edge c d = held_rows (lent_record 2 (2 ∷ 1 ∷ []) (c ∷ d ∷ []))

abbrev given : List (List ℕ)
given =
    -- -ZZ, XY: the word 1 has 1, the word 2 has i
    map (at 2 (both (signed_row true 3 0) (signed_row false 2 3))) four
    -- the record of the same state
    ∷ map (at 2 (edge 6 10)) four
    -- -XX, -ZZ
    ∷ map (at 2 (both (signed_row true 0 3) (signed_row true 3 0))) four
    -- an edge, codes 0 and 0: CZ on ++
    ∷ map (at 2 (edge 0 0)) four
    -- XX, ZZ
    ∷ map (at 2 (edge 0 8)) four
    -- one qubit, -Y
    ∷ map (at 1 (both (signed_row true 1 1) identity)) (0 ∷ 1 ∷ [])
    ∷ []

abbrev expected : List (List ℕ)
expected =
    (4 ∷ 0 ∷ 1 ∷ 4 ∷ [])
    ∷ (4 ∷ 0 ∷ 1 ∷ 4 ∷ [])
    ∷ (4 ∷ 0 ∷ 2 ∷ 4 ∷ [])
    ∷ (0 ∷ 0 ∷ 0 ∷ 2 ∷ [])
    ∷ (0 ∷ 4 ∷ 4 ∷ 0 ∷ [])
    ∷ (0 ∷ 3 ∷ [])
    ∷ []

pub ratio-examples : given ≡ expected
unfolding is_supported leading ratio turns_at every first some fold bit mul act
ratio-examples = refl
