-- The record of a part in buffers of its own; the vertices of the part stand in an array in rising order.
use Rattle.std.specs.Prelude.{List, ℕ, get_or}
use Rattle.buffers.specs.Buffers.{tabulate}
use Rattle.words.specs.Bits.{bit, word_of}

-- the bits of a word at the k listed vertices
abbrev pub renumbered : ℕ → List ℕ → ℕ → ℕ
renumbered k at w = word_of k (λ i. bit w (get_or at i 0))

-- their neighbour words, in their numbers
abbrev pub part_words : ℕ → List ℕ → List ℕ → List ℕ
part_words k at neighbours = tabulate k (λ i. renumbered k at (get_or neighbours (get_or at i 0) 0))

-- their codes
abbrev pub part_codes : ℕ → List ℕ → List ℕ → List ℕ
part_codes k at codes = tabulate k (λ i. get_or codes (get_or at i 0) 0)
