-- How far a record is from the reduced form: a number that every step towards it lowers.
use Rattle.std.specs.Prelude.{Bool, cond, false, true, ◌*◌, ◌+◌, ◌-◌, ℕ}
use Rattle.clifford.specs.Clifford.{Class, XY, XZ, YX, YZ, ZX, ZY, bit_c}
use Rattle.record.specs.Records.{GraphRecord}
use Rattle.words.specs.Bits.{Word, fold}

-- the weights of the places below n where the word is 1
unfoldable pub total : (ℕ → ℕ) → ℕ → Word → ℕ
total weight n f = fold 0 ◌+◌ n (λ q. cond (f q) (weight q) 0)

-- class 5: X goes to Z and Z to Y
abbrev pub is_zy : Class → Bool
is_zy XZ = false
is_zy YZ = false
is_zy ZX = false
is_zy XY = false
is_zy YX = false
is_zy ZY = true

-- the vertices with C = 1 count, the smaller the more; then those of class 5
unfoldable pub code_weight : ℕ → GraphRecord → ℕ
code_weight n r =
    total (λ q. n - q) n (λ q. bit_c (r.codes q)) * (n + 1)
    + total (λ q. 1) n (λ q. is_zy (r.codes q).class)

-- and last those whose image of Z is negative
unfoldable pub distance : ℕ → GraphRecord → ℕ
distance n r = code_weight n r * (n + 1) + total (λ q. 1) n (λ q. (r.codes q).sz)
