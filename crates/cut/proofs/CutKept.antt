-- What keeps the rank across every cut: rewriting a record to another of the same group, one code at each qubit, and
-- complementing at any vertex. Records need not be reduced.
use mathlib.Core.Bool.{◌&&◌, false, not}
use mathlib.Core.Logic.{inl, inr, ◌⊎◌}
use mathlib.Core.Path.{ap, fun_ext, refl, sym, ◌∙◌, ◌≡◌}
use Prim.Native.Nat.{◌<◌, ◌≤◌, ℕ}
use lib.Dec.{eqb}
use Rattle.clifford.proofs.VectorLaws.{act-inverse}
use Rattle.clifford.specs.Clifford.{Clifford, identity_clifford, inverse}
use Rattle.clifford.specs.Vectors.{act}
use Rattle.record.proofs.Complement.{complement-simple}
use Rattle.record.specs.Graph.{Graph, Simple, complement}
use Rattle.record.proofs.Complementing.{complement-same}
use Rattle.record.proofs.ReducedRecords.{record-proper, reduced-is}
use Rattle.record.specs.Records.{GraphRecord, complement_record, rows_of}
use Rattle.record.specs.Reduced.{ReductionOf, reduced, reduced_graph}
use Rattle.stabilizer.specs.Carries.{Carries}
use Rattle.stabilizer.specs.Groups.{SameGroup}
use Rattle.words.proofs.Finite.{⊕-zero}
use Rattle.words.proofs.Sums.{lt-or-ge}
use Rattle.words.specs.Bits.{Word, ◌⊕◌}
use Rattle.cut.proofs.CutOfGroups.{mapped-cut}
use Rattle.cut.proofs.OneSidedElements.{avoids-act}
use Rattle.cut.specs.Cut.{cut_rank}

module _ (n : ℕ) (side : Word) (r s : GraphRecord) (R : Simple n r.graph) (S : Simple n s.graph) where
  -- one group
  pub same-group-cut : SameGroup n n (rows_of n r) (rows_of n s) → cut_rank n side r.graph ≡ cut_rank n side s.graph
  same-group-cut G = mapped-cut n side r s R S (λ p. p) (λ p. p) (λ p. refl) (λ p A. A) (λ p A. A) G.there
      (λ p a. (p, G.back p a, refl))

  -- gates on single qubits: a choice of codes carries one group onto the other
  pub carried-cut : (c : ℕ → Clifford) → Carries n c (rows_of n r) (rows_of n s)
      → cut_rank n side r.graph ≡ cut_rank n side s.graph
  carried-cut c C = mapped-cut n side r s R S (act n c) (act n (λ q. inverse (c q))) (act-inverse n c)
      (avoids-act n side c) (avoids-act n side (λ q. inverse (c q))) C.into C.onto

-- reducing
pub reduced-cut : (n : ℕ) (side : Word) (r : GraphRecord) → Simple n r.graph
    → cut_rank n side r.graph ≡ cut_rank n side (reduced_graph n (rows_of n r))
reduced-cut n side r R = same-group-cut n side r (reduced n (rows_of n r)) R reduction.simple reduction.group
  where
    reduction : ReductionOf n (rows_of n r) (reduced n (rows_of n r))
    reduction = reduced-is n (rows_of n r) (record-proper n r R)

-- complementing, at a vertex or at a number that is none
pub complement-cut : (n : ℕ) (side : Word) (θ : Graph) → Simple n θ → (a : ℕ)
    → cut_rank n side θ ≡ cut_rank n side (complement θ a)
complement-cut n side θ T a = go (lt-or-ge a n)
  where
    plain : GraphRecord
    plain = record { graph = θ; codes = λ q. identity_clifford }

    no_edge : n ≤ a → (i : ℕ) → θ a i ≡ false
    no_edge l i = T.symmetric a i ∙ T.below i a l

    go : (a < n) ⊎ (n ≤ a) → cut_rank n side θ ≡ cut_rank n side (complement θ a)
    go (inl l) = same-group-cut n side plain (complement_record plain a) T (complement-simple n θ T a)
        (complement-same n plain T a l)
    go (inr l) = ap (cut_rank n side) (fun_ext (λ i. fun_ext (λ j.
        sym (ap (λ b. θ i j ⊕ ((b && θ a j) && not (eqb j i))) (no_edge l i) ∙ ⊕-zero (θ i j)))))
