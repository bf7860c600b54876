-- Reduction, put together: after both passes every column has its pivot, and the rows give the reduced
-- record; or some row is left over, and the list is dependent.
use mathlib.Core.Bool.{◌&&◌, Bool, false, not, true, true≢false}
use mathlib.Core.Logic.{inl, inr, ◌⊎◌}
use mathlib.Core.Path.{ap, ap₂, fun_ext, refl, subst, sym, ◌∙◌, ◌≡◌}
use Prim.Native.Nat.{◌<◌, ℕ}
use native.Mathlib.Nat.{le_refl}
use lib.Dec.{eqb}
use borrow.Author.Tests.{le-ltb, lt-ltb, not-false, not-true}
use Rattle.clifford.specs.Clifford.{Clifford}
use Rattle.clifford.specs.Vectors.{act}
use Rattle.pauli.specs.Pauli.{Pauli, sign_bit}
use Rattle.stabilizer.proofs.Carried.{act-same, same_rows}
use Rattle.stabilizer.proofs.GroupLaws.{row-product, same-sym, same-trans}
use Rattle.stabilizer.proofs.Independence.{independent-act, unit-independent}
use Rattle.stabilizer.specs.Groups.{Commuting, Independent, Trivial, Within}
use Rattle.words.proofs.Places.{same_place}
use Rattle.words.proofs.SearchLaws.{first-is}
use Rattle.words.specs.Bits.{Word}
use Rattle.words.specs.Search.{IsFirst, first}
use Rattle.record.proofs.Equation.{equation}
use Rattle.record.proofs.FirstPass.{AfterFirst, FirstPass, first-pass}
use Rattle.record.proofs.GraphForm.{graph-form, graph-simple}
use Rattle.record.proofs.PlainRows.{hadamards-last, hadamards-twice}
use Rattle.record.proofs.SecondPass.{
  AfterSecond,
  SecondPass,
  failed,
  second-pass,
  second-start,
  unused-trivial,
}
use Rattle.record.specs.Columns.{ColumnDependent}
use Rattle.record.specs.Records.{GraphRecord, SameRecord}
use Rattle.record.specs.Reduced.{ReductionOf, hadamard_where, minuses_of, record_of, reduced, x_words, ys_of}

module _ (n : ℕ) (input R₁ : ℕ → Pauli) (kept : Word) (P : FirstPass n input R₁ kept n) (R : ℕ → Pauli)
    (pivoted : Word)
    (Q : SecondPass n (λ j. act n (hadamard_where (failed n kept)) (R₁ j)) R kept pivoted n) where
  abbrev hadamards : ℕ → Clifford
  hadamards = hadamard_where (failed n kept)

  -- ---- a row is left over
  pub passes-dependent : (f : ℕ) → f < n → pivoted f ≡ false → Independent n input → ⊥
  passes-dependent f l e H =
      true≢false (sym (same_place f)
      ∙ Q.independent.0 (independent-act n hadamards R₁ (P.independent.0 H))
      (λ j. eqb j f) (subst (Trivial n) (row-product n n R f l) (unused-trivial n _ R kept pivoted Q f l e)) f
      l)

  -- ---- every column has its pivot
  module _ (all : (t : ℕ) → t < n → pivoted t ≡ true) where
    pivots : (t : ℕ) → t < n → (i : ℕ) → (R i).x t ≡ eqb i t
    pivots t l i = Q.pivots t (all t l) i

    undone : (j : ℕ) → act n hadamards (act n hadamards (R₁ j)) ≡ R₁ j
    undone j = hadamards-twice n (failed n kept) (R₁ j)

    pub passes-independent : Independent n input
    passes-independent = P.independent.1 (subst (Independent n) (fun_ext undone)
        (independent-act n hadamards _ (Q.independent.1 (unit-independent n R pivots))))

    pub passes-reduced : ReductionOf n input (record_of n (failed n kept) R)
    unfolding ys_of minuses_of
    passes-reduced =
        record {
          simple = graph-simple n R Q.commuting Q.within pivots;
          hadamards = failed n kept;
          ys = ys_of n R;
          minuses = minuses_of n R;
          code = λ q. refl;
          rotated = λ q l. (
            (λ e. P.others-dependent q l
                (not-true (kept q) (sym (ap (λ b. b && not (kept q)) (lt-ltb q n l)) ∙ e))),
            (λ D. ap₂ (λ a b. a && not b) (lt-ltb q n l) (not-kept q l D (kept q) refl)),
          );
          above = λ q l. (
            ap (λ b. b && not (kept q)) (le-ltb q n l),
            ap (λ b. b && (R q).z q) (le-ltb q n l),
            ap (λ b. b && sign_bit (R q).phase) (le-ltb q n l),
          );
          group = same-trans P.same (same_rows n n R₁ (λ j. act n hadamards (R j)) _
              (λ j l. ap (act n hadamards) (sym (graph-form n R Q.commuting Q.within pivots j l))
              ∙ sym (hadamards-last n (record_of n (failed n kept) R) (failed n kept) (ys_of n R)
              (minuses_of n R) (λ q. refl) j))
              (same-sym (same_rows n n _ _ _ (λ j l. undone j)
              (same-sym (act-same n n hadamards _ R Q.same)))));
        }
      where
        not-kept : (q : ℕ) → q < n → ColumnDependent n (x_words input) q → (b : Bool) → kept q ≡ b
            → kept q ≡ false
        not-kept q l D false e = e
        not-kept q l D true e = absurd (P.kept-independent q l e D)

    -- so the passes compute the reduced record
    pub passes-equation : SameRecord (reduced n input) (record_of n (failed n kept) R)
    passes-equation = equation n input (record_of n (failed n kept) R) passes-reduced

-- ---- the verdict
pub record HasReduced (n : ℕ) (input : ℕ → Pauli) : Type 0 where
  pub answer : GraphRecord
  pub is-reduced : ReductionOf n input answer
  pub independent : Independent n input

pub reduction : (n : ℕ) (input : ℕ → Pauli) → Commuting n n input → ((i : ℕ) → i < n → Within n (input i))
    → HasReduced n input ⊎ (Independent n input → ⊥)
reduction n input G W = verdict (first-is n (λ t. not (B.pivoted t)))
  where
    A : AfterFirst n input n
    A = first-pass n input G W n (le_refl n)

    rotated : ℕ → Pauli
    rotated j = act n (hadamard_where (failed n A.kept)) (A.rows j)

    B : AfterSecond n rotated A.kept n
    B = second-pass n rotated A.kept (second-start n input A.rows A.kept A.state) n (le_refl n)

    verdict : IsFirst n (λ t. not (B.pivoted t)) (first n (λ t. not (B.pivoted t)))
        ⊎ ((t : ℕ) → t < n → not (B.pivoted t) ≡ false) → HasReduced n input ⊎ (Independent n input → ⊥)
    verdict (inl F) = inr
        (passes-dependent n input A.rows A.kept A.state B.rows B.pivoted B.state
        (first n (λ t. not (B.pivoted t))) F.below
        (not-true (B.pivoted (first n (λ t. not (B.pivoted t)))) F.passes))
    verdict (inr none) =
        inl (record {
          answer = record_of n (failed n A.kept) B.rows;
          is-reduced = passes-reduced n input A.rows A.kept A.state B.rows B.pivoted B.state
              all;
          independent = passes-independent n input A.rows A.kept A.state B.rows B.pivoted
              B.state all;
        })
      where
        all : (t : ℕ) → t < n → B.pivoted t ≡ true
        all t l = not-false (B.pivoted t) (none t l)
