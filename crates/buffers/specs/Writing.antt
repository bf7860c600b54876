-- Bytes written into a lent buffer from a place on; what stands elsewhere stays.
use Rattle.std.specs.Prelude.{List, ◌++◌, ◌≡◌, ℕ, ◌+◌, drop, length, take}

-- out with these bytes from place at on
unfoldable pub overwritten : List ℕ → ℕ → List ℕ → List ℕ
overwritten out at bytes = take at out ++ bytes ++ drop (at + length bytes) out

-- the bytes are printed at place at, which turns the buffer from before into after; r is the place behind them
pub record Printed (bytes : List ℕ) (at : ℕ) (before after : List ℕ) (r : ℕ) : Type 0 where
  pub end : r ≡ at + length bytes
  pub out : after ≡ overwritten before at bytes
