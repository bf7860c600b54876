-- The number that a call answers for the value of a row: the digit of its sign, or 2 where it has none.
use Rattle.std.specs.Prelude.{Bool, None, Option, Some, ℕ}
use Rattle.words.specs.Bits.{digit}

abbrev pub value_number : Option Bool → ℕ
value_number (Some minus) = digit minus
value_number None = 2
