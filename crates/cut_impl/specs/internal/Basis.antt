-- Words held by their smallest set bits, and what is left of a word when they are added to it.
use Rattle.std.specs.Prelude.{List, ◌≡◌, ◌<◌, ◌^◌, ℕ, get_or}
use Rattle.std.specs.Int.Bits.{bit_xor}
use Rattle.std.specs.Int.Count.{count_trailing_zeros}
use Rattle.words.specs.Bits.{bit}
use Rattle.words.specs.Search.{IsFirst}

-- at each place a word of 64 bits: one whose smallest set bit is the place, or 0
pub record Echelon (basis : List ℕ) : Type 0 where
  pub below : (i : ℕ) → get_or basis i 0 < 2 ^ 64
  pub smallest : (i : ℕ) → (get_or basis i 0 ≡ 0 → ⊥) → IsFirst 64 (bit (get_or basis i 0)) i

-- r is w with words of the basis added to it, one after another
pub data SumOf (basis : List ℕ) (w : ℕ) : ℕ → Type 0 where
  none : SumOf basis w w
  one : {r : ℕ} (i : ℕ) → SumOf basis w r → SumOf basis w (bit_xor r (get_or basis i 0))

-- .. and no more can be added: r is 0, or the basis holds no word with r's smallest set bit
pub record Remainder (basis : List ℕ) (w r : ℕ) : Type 0 where
  pub added : SumOf basis w r
  pub last : (r ≡ 0 → ⊥) → get_or basis (count_trailing_zeros 64 r) 0 ≡ 0
