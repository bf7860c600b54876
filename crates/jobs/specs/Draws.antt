-- The draws: a state of 64 bits that is shifted and xored with itself.
use Rattle.std.specs.Prelude.{ℕ, ◌*◌, ◌/◌, ◌%◌, ◌^◌}
use Rattle.std.specs.Int.Bits.{bit_xor}

-- s shifted left, "bits leaving the word lost"
abbrev pub shifted_left : ℕ → ℕ → ℕ
shifted_left s k = (s * 2 ^ k) % 2 ^ 64

-- s shifted right
abbrev pub shifted_right : ℕ → ℕ → ℕ
shifted_right s k = s / 2 ^ k

-- "s xor s shifted left"
abbrev pub xor_left : ℕ → ℕ → ℕ
xor_left k s = bit_xor s (shifted_left s k)

-- "s xor s shifted right"
abbrev pub xor_right : ℕ → ℕ → ℕ
xor_right k s = bit_xor s (shifted_right s k)

-- "Each draw replaces s by s xor s shifted left 13, then by s xor s shifted right 7, then by s xor s shifted left 17";
-- "The new s is the draw d"
unfoldable pub draw : ℕ → ℕ
draw s = xor_left 17 (xor_right 7 (xor_left 13 s))
