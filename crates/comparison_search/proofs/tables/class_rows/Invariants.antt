-- What the loops of `class_rows` keep.
use mathlib.Core.List.{List}
use mathlib.Core.Path.{◌≡◌}
use Prim.Native.Nat.{ℕ}
use lib.ListN.{get_or}
use Rattle.pauli.specs.declared.Generator.{Generator}
use Rattle.comparison.specs.internal.Equations.{Triangular, equations_in}
use Rattle.comparison.specs.internal.Searches.{ClassTable}
use Rattle.comparison.specs.internal.Setting.{generators_in, no_generator}
use Rattle.comparison_search.proofs.tables.class_rows.Given as goal

abbrev pub invariant-loop-j : goal.invariant-loop-j
invariant-loop-j l =
    Triangular (equations_in l.table) × ((first : List Generator) (i : ℕ) → l.g ≡ get_or first i no_generator
    → ClassTable l.n first (generators_in l.second) i 0 (equations_in l.initial.table)
    → ClassTable l.n first (generators_in l.second) i l.j (equations_in l.table))
