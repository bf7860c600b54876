-- The image of a graph under codes: the image graph, its signs, and the refusals.
use Rattle.std.specs.Prelude.{◌&&◌, Bool, false, not, ◌||◌, ◌++◌, List, [], ◌∷◌, ℕ}
use Rattle.buffers.specs.Refusals.{Refusal, line, other_than}
use Rattle.record.specs.Graph.{Graph, Simple, graph_generator}
use Rattle.pauli.specs.Pauli.{Pauli, i², letter_at, minus, scaled, x_bit, z_bit}
use Rattle.pauli.specs.declared.Letter.{Letter}
use Rattle.record.specs.Lent.{LentRecord, held_record, record_lines}
use Rattle.record.specs.Records.{GraphRecord, complement_all, rows_of}
use Rattle.stabilizer.specs.Groups.{InGroup}
use Rattle.stabilizer.specs.Membership.{member}
use Rattle.words.specs.Bits.{Word}
use Rattle.words.specs.Search.{some}
use Rattle.image.specs.Rule.{follow, image_list, state_of}

-- the record at the end: the given one complemented at each vertex of the list; its group is the image group
abbrev pub image_record : ℕ → GraphRecord → GraphRecord
image_record n r = complement_all r (image_list n r)

-- the image graph: that record's graph
abbrev pub image_graph : ℕ → GraphRecord → Graph
image_graph n r = (image_record n r).graph

-- "one minus sign bit per vertex": minus generator j of the image graph is in the image group
abbrev pub image_minus : ℕ → GraphRecord → Word
image_minus n r j = member n (rows_of n r) (scaled i² (graph_generator (image_graph n r) j))

-- ---- "the image group, signs dropped, must be that of a simple graph"
-- the row or its negative is in the group
abbrev pub InUnsigned : ℕ → (ℕ → Pauli) → Pauli → Type 0
InUnsigned n rows p = (s : Bool) × InGroup n n rows (scaled (minus s) p)

-- "signs dropped, .. that of a simple graph": equal groups, up to the sign of each element
pub record UnsignedGraph (n : ℕ) (rows : ℕ → Pauli) : Type 0 where
  pub graph : Graph
  pub simple : Simple n graph
  pub there : (p : Pauli) → InGroup n n rows p → InUnsigned n (graph_generator graph) p
  pub back : (p : Pauli) → InGroup n n (graph_generator graph) p → InUnsigned n rows p

-- ---- refusals
-- 11: "The image loop stops with some C = 1"
unfoldable pub stuck : ℕ → GraphRecord → Bool
stuck n r = some n (follow (state_of r) (image_list n r)).C

-- whether a letter is Y
abbrev pub is_y : Letter → Bool
is_y l = z_bit l && x_bit l

-- 12: "It stops with every C = 0, but the image has Y at some vertex's own place"
unfoldable pub looped : ℕ → GraphRecord → Bool
looped n r = not (stuck n r) && some n (λ j. is_y (letter_at (rows_of n (image_record n r) j) j))

-- the two lines in checking order
abbrev pub loop_lines : ℕ → GraphRecord → List Refusal
loop_lines n r = line 11 (stuck n r) ∷ line 12 (looped n r) ∷ []

-- the lines of the call: those of the record, with the buffers lent for the graph, the signs and the list
-- ("The list buffer is 96 bytes"), then 11 and 12
abbrev pub image_lines : LentRecord → List ℕ → List ℕ → List ℕ → List Refusal
image_lines l graph signs list =
    record_lines l (other_than l.n graph || (other_than l.n signs || other_than 96 list)) false
    ++ loop_lines l.n (held_record l)
