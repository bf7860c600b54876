-- A row of two lists of words, z and x, added to later rows.
use Rattle.std.specs.Prelude.{◌&&◌, Bool, cond, List, ◌≡◌, ℕ, ltb, get_or, length}
use Rattle.std.specs.Int.Bits.{bit_xor}
use Rattle.words.specs.Bits.{bit}

-- the rows after row k and below n that have bit i, of the x word or of the z word
abbrev pub later_with : ℕ → ℕ → Bool → ℕ → List ℕ → List ℕ → ℕ → Bool
later_with n k in-x i z x j = (ltb k j && ltb j n) && bit (cond in-x (get_or x j 0) (get_or z j 0)) i

-- the word of row j with that of row k added to it where row j is to have it
abbrev pub sum_where : Bool → List ℕ → ℕ → ℕ → ℕ
sum_where b words k j = bit_xor (get_or words j 0) (cond b (get_or words k 0) 0)

-- row k is added to these rows, and the others stay
pub record Added (n k : ℕ) (in-x : Bool) (i : ℕ) (z x z' x' : List ℕ) : Type 0 where
  pub z-long : length z' ≡ 64
  pub x-long : length x' ≡ 64
  pub z-words : (j : ℕ) → get_or z' j 0 ≡ sum_where (later_with n k in-x i z x j) z k j
  pub x-words : (j : ℕ) → get_or x' j 0 ≡ sum_where (later_with n k in-x i z x j) x k j
