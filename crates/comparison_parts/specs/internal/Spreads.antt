-- One step of a search for the part of a vertex, and the part as a word.
use Rattle.std.specs.Prelude.{◌&&◌, ◌||◌, ◌≡◌, ◌<◌, ◌^◌, ℕ}
use Rattle.record.specs.Graph.{Graph}
use Rattle.comparison.specs.Parts.{part_of}
use Rattle.words.specs.Bits.{Word, bit}
use Rattle.words.specs.Search.{some}

-- the marked vertices and their neighbours
abbrev pub spread_to : ℕ → Graph → Word → Word
spread_to n θ s j = s j || some n (λ i. s i && θ i j)

-- the word that marks the part of vertex q
pub record PartWord (n : ℕ) (θ : Graph) (q r : ℕ) : Type 0 where
  pub below : r < 2 ^ n
  pub marks : (t : ℕ) → t < n → bit r t ≡ part_of n θ q t
