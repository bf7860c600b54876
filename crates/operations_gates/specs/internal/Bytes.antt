-- Numbers as the bytes of a word.
use Rattle.std.specs.Prelude.{List, ◌≡◌, ◌*◌, ◌+◌, ◌<◌, ◌^◌, ℕ, get_or}
use Rattle.words.specs.Bits.{bit}

-- the m numbers from place i on, a byte for each, the first lowest
pub record Packed (codes : List ℕ) (i m w : ℕ) : Type 0 where
  pub short : w < 2 ^ (8 * m)
  pub bytes : (k : ℕ) → k < m → get_or codes (i + k) 0 < 256
  pub holds : (k t : ℕ) → k < m → t < 8 → bit w (8 * k + t) ≡ bit (get_or codes (i + k) 0) t
