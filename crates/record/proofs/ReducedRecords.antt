-- Every list has a reduced record, of its group; two lists have equal ones exactly if their groups are
-- equal; and reducing a reduced record changes nothing.
use mathlib.Core.Logic.{inl, inr, ◌↔◌}
use mathlib.Core.Path.{subst, sym}
use Prim.Native.Nat.{ℕ}
use Rattle.record.proofs.GraphGroups.{graph-proper}
use Rattle.record.specs.Graph.{Simple, graph_generator}
use Rattle.pauli.specs.Pauli.{Pauli}
use Rattle.stabilizer.proofs.GroupLaws.{same-sym, same-trans}
use Rattle.stabilizer.proofs.Independence.{act-proper}
use Rattle.stabilizer.specs.Groups.{Proper, SameGroup}
use Rattle.record.proofs.Equation.{equation}
use Rattle.record.proofs.Reduction.{reduction}
use Rattle.record.proofs.Unique.{record-path, reduced-carried}
use Rattle.record.specs.Records.{GraphRecord, SameRecord, rows_of}
use Rattle.record.specs.Reduced.{ReductionOf, reduced}

-- the rows of a record with a simple graph are a list
pub record-proper : (n : ℕ) (r : GraphRecord) → Simple n r.graph → Proper n (rows_of n r)
record-proper n r S = act-proper n r.codes (graph_generator r.graph) (graph-proper n r.graph S)

-- the function gives the reduced record
pub reduced-is : (n : ℕ) (rows : ℕ → Pauli) → Proper n rows → ReductionOf n rows (reduced n rows)
reduced-is n rows P = elim (reduction n rows P.commuting P.within) [
  | inl H ↦ subst (ReductionOf n rows)
      (sym (record-path (reduced n rows) H.answer (equation n rows H.answer H.is-reduced)))
      H.is-reduced
  | inr never ↦ absurd (never P.independent)
]

-- the list and the rows of its reduced record have one group
pub same-group : (n : ℕ) (rows : ℕ → Pauli) → Proper n rows → SameGroup n n rows (rows_of n (reduced n rows))
same-group n rows P = (reduced-is n rows P).group

-- lists reduce to equal records exactly if their groups are equal
pub equal-exactly : (n : ℕ) (rows others : ℕ → Pauli) → Proper n rows → Proper n others →
    SameRecord (reduced n rows) (reduced n others) ↔ SameGroup n n rows others
equal-exactly n rows others P Q = (
  (λ E. same-trans (same-group n rows P) (subst (λ r. SameGroup n n (rows_of n r) others)
      (sym (record-path (reduced n rows) (reduced n others) E)) (same-sym (same-group n others Q)))),
  (λ E. equation n rows (reduced n others)
      (reduced-carried n others rows (reduced n others) (same-sym E) (reduced-is n others Q))),
)
