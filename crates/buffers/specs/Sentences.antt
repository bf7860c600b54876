-- Refusals in the documents' words: lines of the published list as sentences about the arguments, in checking order,
-- and the number of the first that is true. They name no test.
use Rattle.std.specs.Prelude.{true, List, [], ◌∷◌, ◌≢◌, ◌⊎◌, ◌≡◌, ◌<◌, ◌≤◌, ℕ, get_or, length}
use Rattle.words.specs.Bits.{bit}

-- a line of the published list: its number, and what it says of the arguments
pub record Sentence : Type 1 where
  pub number : ℕ
  pub says : Type 0

-- line k says so
abbrev pub sentence : ℕ → Type 0 → Sentence
sentence k P = record { number = k; says = P }

-- "the first fitting number", and "a number comes back only where its line below is true": r is that of the first
-- sentence that is true, 0 where none is
abbrev pub FirstTrue : List Sentence → ℕ → Type 0
FirstTrue [] r = r ≡ 0
FirstTrue (s ∷ ss) r = (s.says × (r ≡ s.number)) ⊎ ((s.says → ⊥) × FirstTrue ss r)

-- ---- what several sentences say
-- 2: "n is 0 or above 64"
abbrev pub BadCount : ℕ → Type 0
BadCount n = (n ≡ 0) ⊎ (64 < n)

-- 4: "A buffer's length is not what n or this paper requires"
abbrev pub OtherLength : ℕ → List ℕ → Type 0
OtherLength k buffer = length buffer ≢ k

-- 5: "A word has a bit at or above n"
abbrev pub Stray : ℕ → ℕ → Type 0
Stray n word = (q : ℕ) × (n ≤ q) × (bit word q ≡ true)

-- 5, of a word of a buffer
abbrev pub SomeStray : ℕ → List ℕ → Type 0
SomeStray n buffer = (j : ℕ) × (j < length buffer) × Stray n (get_or buffer j 0)

-- 6: some number of a buffer is above k
abbrev pub SomeAbove : ℕ → List ℕ → Type 0
SomeAbove k buffer = (j : ℕ) × (j < length buffer) × (k < get_or buffer j 0)
