-- Groups over a set of vertices that no edge leaves: its elements in the set's numbers are those among all vertices
-- that have I elsewhere, and a choice that carries the whole group carries that of the set.
use mathlib.Core.Bool.{Bool, false, true}
use mathlib.Core.Logic.{inl, inr, ◌⊎◌}
use mathlib.Core.Path.{ap, subst, sym, ◌∙◌, ◌≡◌}
use Prim.Native.Nat.{◌<◌, ◌≤◌, suc, zero, ℕ}
use native.Mathlib.Nat.{le_refl}
use native.Mathlib.Omega.{arith}
use Rattle.clifford.specs.Clifford.{Clifford}
use Rattle.clifford.specs.Vectors.{act}
use Rattle.record.specs.Graph.{Simple}
use Rattle.pauli.proofs.PauliLaws.{mul-scaled, square}
use Rattle.pauli.specs.Pauli.{Pauli, identity, imaginary, i², mul, scaled}
use Rattle.record.proofs.Maximality.{inclusion-same, maximal-list}
use Rattle.record.proofs.ReducedRecords.{record-proper}
use Rattle.record.specs.Records.{GraphRecord, rows_of}
use Rattle.stabilizer.proofs.Carried.{carries_same}
use Rattle.stabilizer.proofs.GroupLaws.{elements-commute, elements-signed, in-identity, in-mul, in_row}
use Rattle.stabilizer.proofs.Independence.{act-proper, no_minus}
use Rattle.stabilizer.specs.Carries.{Carries}
use Rattle.stabilizer.specs.Groups.{InGroup, Proper, chosen, product}
use Rattle.words.specs.Bits.{Word, fold}
use Rattle.comparison.proofs.PlacedRows.{
  part-simple,
  placed-act,
  placed-anticommute,
  placed-generator,
  placed-identity,
  placed-mul,
  placed-scaled,
  placed-unique,
}
use Rattle.comparison.specs.internal.Numbered.{Numbers, Placed, part_graph}
use Rattle.comparison.specs.internal.Parts.{Closed}

-- a record in the numbers of a set
abbrev pub part_record : ℕ → (ℕ → ℕ) → GraphRecord → GraphRecord
part_record k e r = record { graph = part_graph k e r.graph; codes = λ i. r.codes (e i) }

module _ (n : ℕ) (s : Word) (k : ℕ) (e : ℕ → ℕ) (N : Numbers n s k e) where
  -- ---- two lists, one in the numbers
  module _ (rows part : ℕ → Pauli) (P : Proper n rows) (Q : Proper k part)
      (placed : (i : ℕ) → i < k → Placed n s k e (part i) (rows (e i))) where
    pub placed-in : (p : Pauli) → InGroup k k part p → (R : Pauli) × Placed n s k e p R × InGroup n n rows R
    unfolding fold
    placed-in p a =
        let b = go k (le_refl k) in
        (b.0, subst (λ r. Placed n s k e r b.0) (sym a.1) b.1, b.2)
      where
        go : (m : ℕ) → m ≤ k
            → (R : Pauli) × Placed n s k e (product k m a.0 part) R × InGroup n n rows R
        go zero l = (identity, placed-identity n s k e N, in-identity n n rows)
        go (suc m) l = last (a.0 m) (go m (omega arith))
          where
            last : (b : Bool) → (R : Pauli) × Placed n s k e (product k m a.0 part) R × InGroup n n rows R
                → (R : Pauli) × Placed n s k e (mul k (product k m a.0 part) (chosen b (part m))) R
                × InGroup n n rows R
            last false h = (
              mul n h.0 identity,
              placed-mul n s k e N h.1 (placed-identity n s k e N),
              in-mul n n rows P.commuting h.2 (in-identity n n rows),
            )
            last true h = (
              mul n h.0 (rows (e m)),
              placed-mul n s k e N h.1 (placed m l),
              in-mul n n rows P.commuting h.2 (in_row n n rows (e m) (N.below m l)),
            )

    pub in-numbers : (p R : Pauli) → Placed n s k e p R → InGroup n n rows R → InGroup k k part p
    in-numbers p R A a =
        go (maximal-list k part Q p (ap imaginary (sym A.phase) ∙ signed)
        (record { no-x = A.short-x; no-z = A.short-z })
        (λ i l. sym (placed-anticommute n s k e N (placed i l) A)
        ∙ elements-commute n n rows P.commuting (in_row n n rows (e i) (N.below i l)) a))
      where
        signed : imaginary R.phase ≡ false
        signed = elements-signed n n rows P.commuting a

        go : InGroup k k part p ⊎ InGroup k k part (scaled i² p) → InGroup k k part p
        go (inl b) = b
        go (inr b) =
            let h = placed-in (scaled i² p) b in
            absurd (no_minus n rows P.independent (subst (InGroup n n rows)
            (mul-scaled n i² R R ∙ ap (scaled i²) (square n R signed))
            (in-mul n n rows P.commuting a (subst (InGroup n n rows)
            (placed-unique n s k e N h.1 (placed-scaled n s k e N i² A)) h.2))))

  -- ---- two records with no edge that leaves the set
  module _ (r t : GraphRecord) (R : Simple n r.graph) (T : Simple n t.graph) (C : Closed n r.graph s)
      (D : Closed n t.graph s) where
    placed_row : (u : GraphRecord) → Simple n u.graph → Closed n u.graph s → (i : ℕ) → i < k
        → Placed n s k e (rows_of k (part_record k e u) i) (rows_of n u (e i))
    placed_row u U K i l = placed-act n s k e N u.codes (placed-generator n s k e N u.graph U K i l)

    part-proper : (u : GraphRecord) → Simple n u.graph → Closed n u.graph s
        → Proper k (rows_of k (part_record k e u))
    part-proper u U K = record-proper k (part_record k e u) (part-simple n s k e N u.graph U K)

    -- what carries the whole group carries the set's
    pub part-carried : (c : ℕ → Clifford) → Carries n c (rows_of n r) (rows_of n t)
        → Carries k (λ i. c (e i)) (rows_of k (part_record k e r)) (rows_of k (part_record k e t))
    part-carried c K =
        (carries_same k (λ i. c (e i)) (rows_of k (part_record k e r)) (rows_of k (part_record k e t))).1
        (inclusion-same k (λ i. act k (λ i. c (e i)) (rows_of k (part_record k e r) i)) (rows_of k (part_record k e t))
        (act-proper k (λ i. c (e i)) (rows_of k (part_record k e r)) (part-proper r R C)) (part-proper t T D)
        (λ i l. in-numbers (rows_of n t) (rows_of k (part_record k e t)) (record-proper n t T) (part-proper t T D)
        (placed_row t T D) _ _ (placed-act n s k e N c (placed_row r R C i l))
        (K.into (rows_of n r (e i)) (in_row n n (rows_of n r) (e i) (N.below i l)))))

    -- what carries the set's group sends the set's generators into the whole group
    pub part-sent : (c : ℕ → Clifford)
        → Carries k (λ i. c (e i)) (rows_of k (part_record k e r)) (rows_of k (part_record k e t))
        → (i : ℕ) → i < k → InGroup n n (rows_of n t) (act n c (rows_of n r (e i)))
    part-sent c K i l =
        let h = placed-in (rows_of n t) (rows_of k (part_record k e t)) (record-proper n t T) (part-proper t T D)
        (placed_row t T D) _ (K.into (rows_of k (part_record k e r) i) (in_row k k (rows_of k (part_record k e r)) i l)) in
        subst (InGroup n n (rows_of n t))
        (placed-unique n s k e N h.1 (placed-act n s k e N c (placed_row r R C i l))) h.2
