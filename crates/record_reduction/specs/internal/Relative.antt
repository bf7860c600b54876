-- Signs kept relative to the letters' number of Y. A row with y letters Y, its sign taken off, is i^y X^x Z^z. The
-- elimination keeps the sign before i^(y mod 2) X^x Z^z: for every two Y it is the other one.
use Rattle.std.specs.Prelude.{Bool, List, [], ◌/◌, ℕ, get_or}
use Rattle.std.specs.Int.Bits.{bit_and}
use Rattle.std.specs.Int.Count.{ones}
use Rattle.pauli.specs.Pauli.{Pauli, signed_row}
use Rattle.words.specs.Bits.{Word, is_odd, ◌⊕◌}

-- whether the pairs of Y in the letters of two words are odd in number
unfoldable pub half_y : ℕ → ℕ → Bool
half_y z x = is_odd (ones (bit_and z x) / 2)

-- a row of two words with its relative sign
abbrev pub relative_row : Bool → List ℕ → Pauli
relative_row s v = signed_row (s ⊕ half_y (get_or v 0 0) (get_or v 1 0)) (get_or v 0 0) (get_or v 1 0)

-- row j of a tableau whose signs, the bits of a word, are relative; the identity past the array
abbrev pub relative : Word → List (List ℕ) → ℕ → Pauli
relative signs rows j = relative_row (signs j) (get_or rows j [])
