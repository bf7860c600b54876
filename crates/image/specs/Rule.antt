-- The image rule: which vertices are complemented, one after another, when codes are applied to a graph.
use Rattle.std.specs.Prelude.{◌&&◌, Bool, cond, not, ◌++◌, List, [], ◌∷◌, suc, zero, ℕ, ltb}
use Rattle.clifford.specs.Clifford.{bit_c, bit_d}
use Rattle.record.specs.Graph.{Graph, complement}
use Rattle.record.specs.Records.{GraphRecord}
use Rattle.words.specs.Bits.{Word, put, ◌⊕◌}
use Rattle.words.specs.Search.{first, some}

-- the graph as it is, and two bits for each vertex. "C is 1 if the image of Z is X or Y, and D is 1 if the
-- image of X is X or Y"
pub record State : Type 0 where
  pub graph : Graph
  pub C : Word
  pub D : Word

-- the bits of a record's codes
abbrev pub state_of : GraphRecord → State
state_of r = record { graph = r.graph; C = λ q. bit_c (r.codes q); D = λ q. bit_d (r.codes q) }

-- complementing at v, "following the bits: at the vertex itself C becomes C + D, at a neighbour D becomes C
-- + D, modulo 2"
unfoldable pub complemented_at : State → ℕ → State
complemented_at S v =
    record {
      graph = complement S.graph v;
      C = put S.C v (S.C v ⊕ S.D v);
      D = λ u. cond (S.graph v u) (S.C u ⊕ S.D u) (S.D u);
    }

-- complementing at each vertex of a list, one after another
abbrev pub follow : State → List ℕ → State
follow S [] = S
follow S (v ∷ vs) = follow (complemented_at S v) vs

-- ---- the next complementations
-- "whose two bits are both 1"
abbrev pub both : State → ℕ → Bool
both S v = S.C v && S.D v

-- "with C = 1 and D = 0"
abbrev pub only_c : State → ℕ → Bool
only_c S v = S.C v && not (S.D v)

-- "k above it, joined by an edge, both with C = 1 and D = 0"
abbrev pub pivot_move : State → ℕ → ℕ → Bool
pivot_move S j k = ltb j k && (S.graph j k && (only_c S j && only_c S k))

-- whether some k forms such a pivot_move with j
abbrev pub has_pair : ℕ → State → ℕ → Bool
has_pair n S j = some n (pivot_move S j)

-- "Take the smallest vertex whose two bits are both 1, complement there"
abbrev pub complement_move : ℕ → State → List ℕ
complement_move n S = first n (both S) ∷ []

-- "take the smallest j, then smallest k above it .. and do j, k, j in this way"
abbrev pub triple : ℕ → State → List ℕ
triple n S = let j = first n (has_pair n S) in j ∷ first n (pivot_move S j) ∷ j ∷ []

-- "If no such vertex exists, take the smallest j .. Otherwise stop"
unfoldable pub moves : ℕ → State → List ℕ
moves n S = cond (some n (both S)) (complement_move n S) (cond (some n (has_pair n S)) (triple n S) [])

-- ---- the list
-- at most k times
unfoldable pub moves_upto : ℕ → ℕ → State → List ℕ
moves_upto n zero S = []
moves_upto n (suc k) S = moves n S ++ moves_upto n k (follow S (moves n S))

-- the list of the vertices complemented, in order; the rule stops within n times
abbrev pub image_list : ℕ → GraphRecord → List ℕ
image_list n r = moves_upto n n (state_of r)
