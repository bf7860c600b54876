-- Values of rows on small records, computed from the definition.
use mathlib.Core.Bool.{false}
use mathlib.Core.List.{[], ◌∷◌}
use mathlib.Core.Path.{refl, ◌≡◌}
use Prim.Native.Nat.{ℕ}
use Rattle.clifford.specs.Vectors.{act}
use Rattle.pauli.specs.Pauli.{mul, signed_row}
use Rattle.record.specs.Lent.{held_rows, LentRecord, lent_record}
use Rattle.stabilizer.specs.Membership.{member}
use Rattle.words.specs.Bits.{bit, fold}
use Rattle.words.specs.Search.{every, first, some}
use Rattle.expectation.specs.Values.{stabilizer_value}

-- the value of the row with these two words
abbrev value_at : LentRecord → ℕ → ℕ → ℕ
value_at l z x = stabilizer_value l.n (held_rows l) (signed_row false z x)

-- XX and ZZ
abbrev bell : LentRecord
bell = lent_record 2 (2 ∷ 1 ∷ []) (0 ∷ 8 ∷ [])

-- 0-1-2-0
abbrev triangle : LentRecord
triangle = lent_record 3 (6 ∷ 5 ∷ 3 ∷ []) (0 ∷ 0 ∷ 0 ∷ [])

-- II, XX, ZZ and YY; XI, ZY
pub bells : (value_at bell 0 0 ∷ value_at bell 0 3 ∷ value_at bell 3 0 ∷ value_at bell 3 3 ∷ value_at bell 0 1
    ∷ value_at bell 3 2 ∷ []) ≡ (0 ∷ 0 ∷ 0 ∷ 1 ∷ 2 ∷ 2 ∷ [])
unfolding fold stabilizer_value member some every first bit mul act
bells = refl

-- XZZ, YYI, XXX, ZII
pub triangles : (value_at triangle 6 1 ∷ value_at triangle 3 3 ∷ value_at triangle 0 7 ∷ value_at triangle 1 0 ∷ [])
    ≡ (0 ∷ 0 ∷ 1 ∷ 2 ∷ [])
unfolding fold stabilizer_value member some every first bit mul act
triangles = refl
