-- Cuts of the vertices into two sides, by a word that marks one of them.
use Rattle.std.specs.Prelude.{◌&&◌, not, ℕ}
use Rattle.record.specs.Graph.{Graph}
use Rattle.words.specs.Bits.{Word}
use Rattle.cut.specs.Rank.{rank}

-- "the edges between the sides": a row for each vertex of the marked side, a column for each vertex of the other
abbrev pub crossing : Word → Graph → Graph
crossing side θ j k = (side j && not (side k)) && θ j k

-- "the rank modulo 2 of the edges between the sides"
abbrev pub cut_rank : ℕ → Word → Graph → ℕ
cut_rank n side θ = rank n n (crossing side θ)
