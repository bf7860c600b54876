-- Graphs as they are lent: a buffer with one neighbour word for each vertex.
use Rattle.std.specs.Prelude.{List, ℕ, get_or}
use Rattle.words.specs.Bits.{bit}
use Rattle.record.specs.Graph.{Graph}

-- the graph of a buffer; no vertex at or above its length has a neighbour
abbrev pub graph_in : List ℕ → Graph
graph_in words j = bit (get_or words j 0)
