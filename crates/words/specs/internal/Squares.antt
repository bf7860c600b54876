-- Squares of bits, a word for each row, and the rounds that transpose them.
use Rattle.std.specs.Prelude.{Bool, cond, false, not, true, List, ◌≡◌, ◌%◌, ◌*◌, ◌+◌, ◌-◌, ◌/◌, ◌<◌, ℕ, ◌≤◌, eqb, get_or, length}
use Rattle.words.specs.Bits.{bit}

-- the number lacks bit s, which is 1, 2, 4, 8, 16 or 32
unfoldable pub lacks : ℕ → ℕ → Bool
lacks s i = eqb (i / s % 2) 0

-- the number r with bit s of the number c
unfoldable pub crossed : ℕ → ℕ → ℕ → ℕ
crossed s r c = cond (lacks s r) (cond (lacks s c) r (r + s)) (cond (lacks s c) (r - s) r)

-- what a round needs: the mask of the columns that lack bit s, and where the blocks begin and end
pub record Round (s low : ℕ) : Type 0 where
  pub positive : 1 ≤ s
  pub short : s ≤ 32
  pub mask : (c : ℕ) → c < 64 → bit low c ≡ lacks s c
  pub above : (c : ℕ) → c < 64 → lacks s c ≡ false → s ≤ c
  pub back : (c : ℕ) → c < 64 → s ≤ c → lacks s (c - s) ≡ not (lacks s c)
  pub next : (b : ℕ) → b < 64 → b % (2 * s) ≡ 0 → (b + 2 * s) % (2 * s) ≡ 0
  pub begins : (b k : ℕ) → b < 64 → k < 64 → b % (2 * s) ≡ 0 → b ≤ k → k < b + s → lacks s k ≡ true
  pub ends : (b k : ℕ) → b < 64 → k < 64 → b % (2 * s) ≡ 0 → lacks s k ≡ true → k < b + 2 * s → k < b + s

-- the blocks of a round fill m rows
pub record Fits (m s : ℕ) : Type 0 where
  pub whole : (b : ℕ) → b < m → b % (2 * s) ≡ 0 → b + 2 * s ≤ m
  pub partner : (i : ℕ) → i < m → lacks s i ≡ true → i + s < m

-- the sizes that have their rounds
pub data Size : ℕ → Type 0 where
  eight : Size 8
  sixteen : Size 16
  half : Size 32
  full : Size 64

-- bit s of row and column is exchanged in the first m of both
pub record Exchanged (m s : ℕ) (rows rows' : List ℕ) : Type 0 where
  pub long : length rows' ≡ 64
  pub inside : (r c : ℕ) → r < m → c < m → crossed s r c < m
  pub moved : (r c : ℕ) → r < m → c < m
      → bit (get_or rows' r 0) c ≡ bit (get_or rows (crossed s r c) 0) (crossed s c r)

-- row and column are exchanged in the first n of both
pub record Transposed (n : ℕ) (rows rows' : List ℕ) : Type 0 where
  pub long : length rows' ≡ 64
  pub turned : (r c : ℕ) → r < n → c < n → bit (get_or rows' r 0) c ≡ bit (get_or rows c 0) r
