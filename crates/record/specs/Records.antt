-- Graph records, their generators, and complementing a record.
use Rattle.std.specs.Prelude.{cond, List, [], ◌∷◌, ◌≡◌, ℕ, eqb}
use Rattle.clifford.specs.Clifford.{Clifford, clifford_of, then}
use Rattle.clifford.specs.Vectors.{act}
use Rattle.record.specs.Graph.{Graph, complement, graph_generator}
use Rattle.pauli.specs.Pauli.{Pauli}

-- "A record holds n, one neighbour word and one code per vertex"; n is given beside it
pub record GraphRecord : Type 0 where
  pub graph : Graph
  pub codes : ℕ → Clifford

-- equal records: the same neighbours and the same code at every vertex
pub record SameRecord (r s : GraphRecord) : Type 0 where
  pub neighbours : (i j : ℕ) → r.graph i j ≡ s.graph i j
  pub code : (q : ℕ) → r.codes q ≡ s.codes q

-- "Its generator j is X at j and Z at the neighbours of j, sign plus, each place then sent through its
-- vertex's code"
abbrev pub record_row : ℕ → Graph → (ℕ → Clifford) → ℕ → Pauli
record_row n θ c j = act n c (graph_generator θ j)

-- "Expansion writes these n generators in order j"
abbrev pub rows_of : ℕ → GraphRecord → ℕ → Pauli
rows_of n r = record_row n r.graph r.codes

-- "the code at a becomes 13 then the old code; each neighbour's becomes 6 then the old code"
abbrev pub recoded : Graph → ℕ → (ℕ → Clifford) → ℕ → Clifford
recoded θ a c q = cond (eqb q a) (then (clifford_of 13) (c q)) (cond (θ a q) (then (clifford_of 6) (c q)) (c q))

-- "Complementing at vertex a .. As a rewriting of a record it keeps the group"
abbrev pub complement_record : GraphRecord → ℕ → GraphRecord
complement_record r a = record { graph = complement r.graph a; codes = recoded r.graph a r.codes }

-- complementing at each vertex of a list, one after another
abbrev pub complement_all : GraphRecord → List ℕ → GraphRecord
complement_all r [] = r
complement_all r (a ∷ rest) = complement_all (complement_record r a) rest
