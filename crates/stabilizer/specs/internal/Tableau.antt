-- The tableau of the code: an array of 64 rows of two words, z and x, beside one word of signs.
use Rattle.std.specs.Prelude.{List, [], ℕ, get_or}
use Rattle.pauli.specs.Pauli.{Pauli, signed_row}
use Rattle.words.specs.Bits.{bit}

-- row j: its sign is bit j of the sign word; the identity past the array
abbrev pub tableau : ℕ → List (List ℕ) → ℕ → Pauli
tableau signs rows j = signed_row (bit signs j) (get_or (get_or rows j []) 0 0) (get_or (get_or rows j []) 1 0)
