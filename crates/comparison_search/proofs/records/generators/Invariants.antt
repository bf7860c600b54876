-- What the loops of `generators` keep.
use mathlib.Core.Path.{◌≡◌}
use Rattle.buffers.proofs.Filling.{FilledBy}
use Rattle.pauli.specs.internal.Rows.{generator_of}
use Rattle.record.specs.Lent.{held_rows, lent_record}
use Rattle.comparison.specs.internal.Setting.{generators_in, no_generator}
use Rattle.comparison_search.proofs.records.generators.Given as goal

abbrev pub invariant-loop-j : goal.invariant-loop-j
invariant-loop-j l =
    FilledBy no_generator 64
    (λ i g. generator_of g ≡ held_rows (lent_record l.n l.neighbours l.codes) i) (generators_in l.rows) l.j
