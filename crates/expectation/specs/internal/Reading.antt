-- The value of a row read off a graph record: the row sent back through the codes, beside the one element of the
-- graph's group that has its x bits.
use Rattle.std.specs.Prelude.{cond, ℕ, eqb}
use Rattle.clifford.specs.Clifford.{inverse}
use Rattle.clifford.specs.Vectors.{act}
use Rattle.record.specs.Graph.{graph_generator}
use Rattle.pauli.specs.Pauli.{Pauli}
use Rattle.pauli.specs.declared.Generator.{Generator}
use Rattle.pauli.specs.declared.Row.{Row}
use Rattle.record.specs.Records.{GraphRecord}
use Rattle.stabilizer.specs.Groups.{product}
use Rattle.words.specs.Bits.{digit, ◌⊕◌}

-- each place of the row sent back through its vertex's code
abbrev pub sent_back : ℕ → GraphRecord → Pauli → Pauli
sent_back n r p = act n (λ q. inverse (r.codes q)) p

-- the element of the graph's group with these x bits
abbrev pub element_with : ℕ → GraphRecord → Pauli → Pauli
element_with n r p = product n n p.x (graph_generator r.graph)

-- the element beside the row that was sent back: other letters, or the same with equal or opposite signs
abbrev pub read_value : Row → Generator → ℕ
read_value e g = cond (eqb e.z g.z) (digit (eqb e.phase 2 ⊕ g.minus)) 2
