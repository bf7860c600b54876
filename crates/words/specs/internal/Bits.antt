-- Words: a bit for each qubit. "Bit q of a word belongs to qubit q, bit 0 lowest, words 64 bits wide.": what only the
-- proofs name.
use Rattle.std.specs.Prelude.{Bool, ℕ}
use Rattle.std.specs.Int.Bits.{bit_and}
use Rattle.std.specs.Int.Count.{ones}
use Rattle.words.specs.Bits.{is_odd}

-- the places where both words have a 1 are odd in number
unfoldable pub dot : ℕ → ℕ → Bool
dot a b = is_odd (ones (bit_and a b))
