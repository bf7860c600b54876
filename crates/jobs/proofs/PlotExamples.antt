-- Worked tables, at the definitions, byte for byte: -Y; -ZZ, XY; an edge with codes 0, 0.
use mathlib.Core.Bool.{false, true}
use mathlib.Core.List.{List, [], ◌∷◌, ◌++◌}
use mathlib.Core.Path.{◌≡◌, refl}
use Prim.Native.Nat.{ℕ, zero, suc, ◌^◌}
use lib.Ieee.{to_bits}
use lib.ListN.{replicate}
use Rattle.amplitude.specs.Plotting.{plotted, turned}
use Rattle.amplitude.specs.Ratios.{is_supported, leading, plot_at, ratio}
use Rattle.amplitude.specs.Turns.{turns_at}
use Rattle.pauli.specs.Pauli.{Pauli, identity, mul, signed_row}
use Rattle.record.specs.Columns.{is_column_dependent}
use Rattle.text.specs.Text.{digits, hex_digit, hex_text}
use Rattle.words.specs.Bits.{bit, fold}
use Rattle.words.specs.Search.{every, first, some}
use Rattle.jobs.specs.Table.{plot_names, point_text, point_texts, table_text}

-- the bits of 0, 1, -1, 1/2 and 1/4, with the space before them
abbrev nought : List ℕ
nought = 32 ∷ replicate 16 48

abbrev one : List ℕ
one = 32 ∷ 51 ∷ 102 ∷ 102 ∷ replicate 13 48

abbrev less : List ℕ
less = 32 ∷ 98 ∷ 102 ∷ 102 ∷ replicate 13 48

abbrev half : List ℕ
half = 32 ∷ 51 ∷ 102 ∷ 101 ∷ replicate 13 48

abbrev quarter : List ℕ
quarter = 32 ∷ 51 ∷ 102 ∷ 100 ∷ replicate 13 48

-- two generators
abbrev both : Pauli → Pauli → ℕ → Pauli
both p r zero = p
both p r (suc j) = r

-- their table on n qubits
abbrev table_of : ℕ → (ℕ → Pauli) → List ℕ
table_of n R = table_text (2 ^ n) (plot_at n R)

abbrev given : List (List ℕ)
given =
    -- one qubit, -Y
    table_of 1 (both (signed_row true 1 1) identity)
    -- -ZZ, XY: the word 1 has 1, the word 2 has i
    ∷ table_of 2 (both (signed_row true 3 0) (signed_row false 2 3))
    -- an edge: CZ on ++
    ∷ table_of 2 (both (signed_row false 2 1) (signed_row false 1 2))
    ∷ []

abbrev expected : List (List ℕ)
expected =
    (plot_names ++ 48 ∷ one ++ nought ++ half ++ 10 ∷ 49 ∷ nought ++ less ++ half ++ 10 ∷ [])
    ∷ (plot_names ++ 48 ∷ nought ++ nought ++ nought ++ 10 ∷ 49 ∷ one ++ nought ++ half ++ 10
    ∷ 50 ∷ nought ++ one ++ half ++ 10 ∷ 51 ∷ nought ++ nought ++ nought ++ 10 ∷ [])
    ∷ (plot_names ++ 48 ∷ one ++ nought ++ quarter ++ 10 ∷ 49 ∷ one ++ nought ++ quarter ++ 10
    ∷ 50 ∷ one ++ nought ++ quarter ++ 10 ∷ 51 ∷ less ++ nought ++ quarter ++ 10 ∷ [])
    ∷ []

pub table-examples : given ≡ expected
unfolding point_text point_texts table_text digits hex_digit hex_text to_bits is_supported leading ratio turns_at every first
    some fold bit mul is_column_dependent
table-examples = refl

-- a word of four digits
pub last-point : point_text 1023 (plotted (turned 2) 10)
    ≡ 49 ∷ 48 ∷ 50 ∷ 51 ∷ less ++ nought ++ 32 ∷ 51 ∷ 102 ∷ 53 ∷ replicate 13 48 ++ 10 ∷ []
unfolding point_text digits hex_digit hex_text to_bits
last-point = refl
