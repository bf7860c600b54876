-- A choice that carries one list's group onto another's: the codes that it induces carry the first reduced graph's
-- group onto the second's.
use mathlib.Core.Path.{ap, ap₂, sym, ◌∙◌, ◌≡◌}
use Prim.Native.Nat.{ℕ}
use Rattle.clifford.proofs.CliffordLaws.{clifford_of-code_of}
use Rattle.clifford.proofs.VectorLaws.{act-inverse, act-then}
use Rattle.clifford.specs.Clifford.{Clifford, clifford_of, code_of, inverse, then}
use Rattle.clifford.specs.Vectors.{act}
use Rattle.record.specs.Graph.{graph_generator}
use Rattle.pauli.specs.Pauli.{Pauli}
use Rattle.record.proofs.ReducedRecords.{same-group}
use Rattle.record.specs.Records.{rows_of}
use Rattle.record.specs.Reduced.{reduced, reduced_code, reduced_graph}
use Rattle.stabilizer.proofs.Carried.{act-same, carries_same, same_rows}
use Rattle.stabilizer.proofs.GroupLaws.{same-sym, same-trans}
use Rattle.stabilizer.specs.Carries.{Carries}
use Rattle.stabilizer.specs.Groups.{Proper, SameGroup}
use Rattle.comparison.specs.Compared.{induced}

module _ (n : ℕ) (rows others : ℕ → Pauli) (P : Proper n rows) (P' : Proper n others) (c : ℕ → Clifford)
    (C : Carries n c rows others) where
  abbrev undone : ℕ → Clifford
  undone q = inverse (reduced_code n others q)

  carried : SameGroup n n (λ j. act n c (rows_of n (reduced n rows) j)) (rows_of n (reduced n others))
  carried =
      same-trans (same-sym (act-same n n c rows (rows_of n (reduced n rows)) (same-group n rows P)))
      (same-trans ((carries_same n c rows others).0 C) (same-group n others P'))

  pub induced-carries : SameGroup n n
      (rows_of n (record { graph = reduced_graph n rows; codes = induced n rows others c }))
      (graph_generator (reduced_graph n others))
  induced-carries =
      same_rows n n _ _ _ (λ j l. act-inverse n (reduced_code n others)
      (graph_generator (reduced_graph n others) j))
      (same-sym (same_rows n n _ _ _ (λ j l. sym (steps (graph_generator (reduced_graph n rows) j)))
      (same-sym (act-same n n undone _ _ carried))))
    where
      steps : (p : Pauli) → act n (induced n rows others c) p ≡ act n undone
          (act n c (act n (reduced_code n rows) p))
      steps p =
          act-then n (λ q. then (reduced_code n rows q) (c q)) undone p
          ∙ ap (act n undone) (act-then n (reduced_code n rows) c p)

-- the code's calls
pub induced-by-calls : (a b c r s t : ℕ) → r ≡ code_of (then (clifford_of a) (clifford_of b))
    → s ≡ code_of (inverse (clifford_of c)) → t ≡ code_of (then (clifford_of r) (clifford_of s))
    → t ≡ code_of (then (then (clifford_of a) (clifford_of b)) (inverse (clifford_of c)))
induced-by-calls a b c r s t er es et =
    et ∙ ap₂ (λ u v. code_of (then (clifford_of u) (clifford_of v))) er es
    ∙ ap₂ (λ u v. code_of (then u v)) (clifford_of-code_of (then (clifford_of a) (clifford_of b)))
    (clifford_of-code_of (inverse (clifford_of c)))
