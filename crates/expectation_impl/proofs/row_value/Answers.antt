-- `row_value` meets its contract: the value of the row with these two words, sign plus.
use mathlib.Core.Path.{◌∙◌, ◌≡◌, subst}
use Rattle.expectation.proofs.ReadWords.{read_is}
use Rattle.record.specs.Graph.{graph_generator}
use Rattle.record.specs.NeighbourWords.{graph_in}
use Rattle.pauli.specs.internal.Rows.{pauli_of}
use Rattle.record.specs.Lent.{LentRecord, lent_record}
use Rattle.stabilizer.specs.Groups.{product}
use Rattle.words.specs.Bits.{bit}
use Rattle.expectation_impl.proofs.row_value.Goals as goal

pub returns : goal.returns
returns c =
    let a = c.args in
    let A = c.requires.accepted_record in
    let l : LentRecord = lent_record a.n a.neighbours.now a.codes.now in
    c.read.ensures
    ∙ read_is l A a.z a.x c.requires.z_bound.0 c.requires.z_bound.1 _ c.send_back-row.ensures _
    c.graph_element.ensures.1
    (subst (λ m. pauli_of c.graph_element.result
    ≡ product m m (bit c.send_back-row.result.x) (graph_generator (graph_in l.neighbours)))
    A.neighbours-length c.graph_element.ensures.0)
