-- The vertices that may be out of place, told by their codes alone.
use Rattle.std.specs.Prelude.{Bool, ◌||◌, List, ◌≡◌, ◌<◌, ℕ, ◌≤◌, leb, get_or, length}
use Rattle.words.specs.Bits.{bit, is_odd}

-- a code that is odd, or 8 or more: only with such a code can a vertex be out of place
abbrev pub suspect : ℕ → Bool
suspect code = is_odd code || leb 8 code

-- the word has the vertices with such codes, where there are at most 64 numbers and all are codes
pub record Marked (codes : List ℕ) (word : ℕ) : Type 0 where
  pub marked : length codes ≤ 64 → ((q : ℕ) → get_or codes q 0 < 24) → (q : ℕ)
      → bit word q ≡ suspect (get_or codes q 0)
