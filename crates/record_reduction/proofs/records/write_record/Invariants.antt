-- What the loops of `write_record` keep.
use Prim.Native.Nat.{◌≤◌}
use Rattle.buffers.proofs.Filling.{Filled}
use Rattle.clifford.specs.Clifford.{code_of}
use Rattle.record.specs.Reduced.{graph_of, record_of}
use Rattle.stabilizer.specs.internal.Tableau.{tableau}
use Rattle.words.specs.Bits.{bit, word_of}
use Rattle.record_reduction.proofs.records.write_record.Given as goal

abbrev pub invariant-loop-q : goal.invariant-loop-q
invariant-loop-q l =
    (l.q ≤ l.n)
    × Filled l.n (λ j. word_of l.n (graph_of l.n (tableau l.signs l.rows) j)) l.neighbours l.q
    × Filled l.n (λ j. code_of ((record_of l.n (bit l.hadamards) (tableau l.signs l.rows)).codes j)) l.codes l.q
