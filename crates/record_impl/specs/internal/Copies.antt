-- Words copied into a square.
use Rattle.std.specs.Prelude.{List, ◌≡◌, ◌<◌, ℕ, get_or, length}

-- the first n rows are these words
pub record Copied (n : ℕ) (words rows : List ℕ) : Type 0 where
  pub long : length rows ≡ 64
  pub same : (j : ℕ) → j < n → get_or rows j 0 ≡ get_or words j 0
