-- Four words with the bits of one qubit exchanged.
use Rattle.std.specs.Prelude.{List, ◌≡◌, ◌/◌, ◌<◌, ℕ, get_or}
use Rattle.words.specs.Bits.{bit, is_odd, put}

-- r is w with bit l of four put in at qubit q of word l
abbrev pub Placed : List ℕ → List ℕ → ℕ → ℕ → Type 0
Placed w r q four = (l : ℕ) → l < 4 → (j : ℕ) → bit (get_or r l 0) j ≡ put (bit (get_or w l 0)) q (bit four l) j

-- r is w with sx and sz of the code v put in at qubit q of the first two words
abbrev pub SignsPlaced : List ℕ → List ℕ → ℕ → ℕ → Type 0
SignsPlaced w r q v =
    ((j : ℕ) → bit (get_or r 0 0) j ≡ put (bit (get_or w 0 0)) q (is_odd (v / 2)) j)
    × ((j : ℕ) → bit (get_or r 1 0) j ≡ put (bit (get_or w 1 0)) q (is_odd v) j)
    × (get_or r 2 0 ≡ get_or w 2 0) × (get_or r 3 0 ≡ get_or w 3 0)
