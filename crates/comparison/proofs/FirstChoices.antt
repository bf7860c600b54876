-- The loops: for each qubit in turn the first key that the equations allow.
use mathlib.Core.Bool.{Bool, false, true, true≢false}
use mathlib.Core.List.{List}
use mathlib.Core.Logic.{inl, inr, ◌⊎◌}
use mathlib.Core.Path.{ap, subst, sym, ◌∙◌, ◌≡◌}
use Prim.Native.Nat.{◌*◌, ◌+◌, ◌<◌, ◌≤◌, suc, zero-le, ℕ}
use native.Mathlib.Nat.{lt_of_le_of_lt, lt_of_lt_of_le, lt_trans, not-le_of_lt, not-suc-le-zero}
use native.Mathlib.Numerals.{add-one}
use native.Mathlib.Omega.{arith}
use borrow.Author.Count.{below_more}
use Rattle.clifford.specs.Clifford.{Clifford}
use Rattle.words.proofs.Sums.{last_or, lt-or-ge}
use Rattle.comparison.proofs.EquationLaws.{SameBelow, fails-below}
use Rattle.comparison.proofs.Extension.{row-short, rows-below}
use Rattle.comparison.specs.internal.Equations.{
  Assignment,
  Equation,
  QubitTested,
  Solves,
  Triangular,
  equation_at,
  fails,
}
use Rattle.comparison.specs.internal.Searches.{LeastBelow, FirstFit}

-- ---- the loop over the keys of one qubit
module _ (A : (ℕ → Clifford) → Assignment) (table : List Equation) (q : ℕ) (next : ℕ → ℕ → Clifford) (bound : ℕ) where
  -- none of the choices before v fits
  pub record MissedBelow (v : ℕ) : Type 0 where
    pub upto : v ≤ bound
    pub before : (u : ℕ) → u < v
        → (i : ℕ) × (4 * q ≤ i) × (i < 4 * q + 4) × (fails (equation_at table i) (A (next u)) ≡ true)

  pub none-missed : MissedBelow 0
  none-missed = record { upto = zero-le; before = λ u l. absurd (not-suc-le-zero l) }

  pub one-missed : (v : ℕ) → MissedBelow v → v < bound → (w : Assignment) → w ≡ A (next v) → (b : Bool)
      → QubitTested table q w b → b ≡ true → MissedBelow (v + 1)
  one-missed v M l w e b Q h =
      record {
        upto = rw add-one l;
        before = below_more _ _ M.before (
          (Q.found h).0,
          (Q.found h).1,
          (Q.found h).2,
          ap (fails (equation_at table (Q.found h).0)) (sym e) ∙ (Q.found h).3,
        );
      }

  pub one-fits : (v : ℕ) → MissedBelow v → (w : Assignment) → w ≡ A (next v) → (b : Bool) → QubitTested table q w b
      → b ≡ false → FirstFit A table q next bound v
  one-fits v M w e b Q h =
      record {
        upto = M.upto;
        hold = λ l i k m. ap (fails (equation_at table i)) (sym e) ∙ Q.hold h i k m;
        before = M.before;
      }

  pub none-fits : (v : ℕ) → MissedBelow v → bound ≤ v → FirstFit A table q next bound v
  none-fits v M l =
      record {
        upto = M.upto;
        hold = λ k. absurd (not-le_of_lt k l);
        before = M.before;
      }

-- ---- one qubit more
module _ (A : (ℕ → Clifford) → Assignment) (key : Clifford → ℕ) (table : List Equation) (T : Triangular table)
    (local : (q : ℕ) (c d : ℕ → Clifford) → ((u : ℕ) → u < q → key (d u) ≡ key (c u)) → SameBelow q (A c) (A d))
    (q : ℕ) (c : ℕ → Clifford) (next : ℕ → ℕ → Clifford) (bound : ℕ)
    (front : (v : ℕ) → v < bound → (u : ℕ) → u < q → key (next v u) ≡ key (c u))
    (here : (v : ℕ) → v < bound → key (next v q) ≡ v) (v : ℕ) (F : FirstFit A table q next bound v) where
  next_row : (i : ℕ) → i < 4 * q + 4 → i < 4 * suc q
  next_row i l = omega (arith, l)

  -- a solution that has the keys chosen has no smaller key than v here
  pub not-before : (d : ℕ → Clifford) → Solves table (A d) → ((u : ℕ) → u < q → key (d u) ≡ key (c u)) → v ≤ key (d q)
  not-before d s h = go (lt-or-ge (key (d q)) v)
    where
      go : (key (d q) < v) ⊎ (v ≤ key (d q)) → v ≤ key (d q)
      go (inr l) = l
      go (inl l) =
          absurd (true≢false (sym B.3
          ∙ fails-below (equation_at table B.0) (suc q) (row-short table T (suc q) B.0 (next_row B.0 B.2))
          (A (next u)) (A d) (local (suc q) (next u) d (λ t k. at t (last_or k))) ∙ s B.0))
        where
          u : ℕ
          u = key (d q)

          small : key (d q) < bound
          small = lt_of_lt_of_le l F.upto

          B : (i : ℕ) × (4 * q ≤ i) × (i < 4 * q + 4) × (fails (equation_at table i) (A (next (key (d q)))) ≡ true)
          B = F.before (key (d q)) l

          at : (t : ℕ) → (t ≡ q) ⊎ (t < q) → key (d t) ≡ key (next (key (d q)) t)
          at t (inl p) = ap (λ t. key (d t)) p ∙ sym (here (key (d q)) small)
              ∙ ap (λ t. key (next (key (d q)) t)) (sym p)
          at t (inr k) = h t k ∙ sym (front (key (d q)) small t k)

  -- so it is among those tried
  pub one-fit : (d : ℕ → Clifford) → Solves table (A d) → ((u : ℕ) → u < q → key (d u) ≡ key (c u)) → key (d q) < bound
      → v < bound
  one-fit d s h l = lt_of_le_of_lt (not-before d s h) l

  pub one-chosen : v < bound → LeastBelow A key table q c → LeastBelow A key table (q + 1) (next v)
  one-chosen small C =
      record { hold = λ i l. rows i (lt-or-ge i (4 * q)) l; least = λ t l d s h. least t (last_or (up t l)) d s h }
    where
      up : (t : ℕ) → t < q + 1 → t < suc q
      up t l = omega (arith, l)

      wide : (i : ℕ) → i < 4 * (q + 1) → i < 4 * q + 4
      wide i l = omega (arith, l)

      rows : (i : ℕ) → (i < 4 * q) ⊎ (4 * q ≤ i) → i < 4 * (q + 1) → fails (equation_at table i) (A (next v)) ≡ false
      rows i (inl k) l = rows-below table T q (A c) (A (next v)) (local q c (next v) (front v small)) C.hold i k
      rows i (inr k) l = F.hold small i k (wide i l)

      least : (t : ℕ) → (t ≡ q) ⊎ (t < q) → (d : ℕ → Clifford) → Solves table (A d)
          → ((u : ℕ) → u < t → key (d u) ≡ key (next v u)) → key (next v t) ≤ key (d t)
      least t (inr k) d s h =
          subst (λ m. m ≤ key (d t)) (sym (front v small t k))
          (C.least t k d s (λ u l. h u l ∙ front v small u (lt_trans l k)))
      least t (inl p) d s h =
          subst (λ t. key (next v t) ≤ key (d t)) (sym p)
          (subst (λ m. m ≤ key (d q)) (sym (here v small))
          (not-before d s (λ u l. h u (subst (λ t. u < t) (sym p) l) ∙ front v small u l)))

pub none-chosen : (A : (ℕ → Clifford) → Assignment) (key : Clifford → ℕ) (table : List Equation) (c : ℕ → Clifford)
    → LeastBelow A key table 0 c
none-chosen A key table c =
    record { hold = λ i l. absurd (not-suc-le-zero l); least = λ t l. absurd (not-suc-le-zero l) }
