-- Where a table ends: a table without equations, and those that asked ones leave empty.
use mathlib.Core.Bool.{true≢false, true}
use mathlib.Core.List.{List}
use mathlib.Core.Logic.{inl, inr, ◌⊎◌}
use mathlib.Core.Path.{ap, refl, subst, sym, ◌∙◌, ◌≡◌}
use Prim.Native.Nat.{◌%◌, ◌*◌, ◌/◌, ◌<◌, ◌≤◌, suc, zero, zero-le, ℕ}
use native.Mathlib.Decide.{ℕ_discrete}
use native.Mathlib.Nat.{not-suc-le-zero}
use native.Mathlib.Omega.{arith}
use lib.Arith.{lt_of_le-ne}
use lib.ListN.{get_or, length-set, replicate, set}
use lib.Seq.{get_or-set_other, get_or-set_same}
use Rattle.clifford.specs.Clifford.{Clifford}
use Rattle.pauli.specs.declared.Generator.{Generator}
use Rattle.words.specs.Bits.{◌⊕◌}
use Rattle.comparison.proofs.EquationLaws.{Short, empty_holds, empty-unknown, fails-zero, zero_assignment}
use Rattle.comparison.proofs.EquationTables.{class-short, sign-short}
use Rattle.comparison.proofs.Extension.{changed, fails-changed}
use Rattle.comparison.specs.internal.Equations.{
  Assignment,
  EmptyFrom,
  Equation,
  Solves,
  Triangular,
  class_equation,
  empty_equation,
  empty_rows,
  equation_at,
  equations_in,
  fails,
  unknown,
}
use Rattle.comparison.specs.internal.Searches.{ClassAsked, ClassTable, SignAsked, SignTable, TableOf}
use Rattle.comparison.specs.internal.Setting.{Setting, no_generator}

-- ---- a table without equations
module _ (table : List Equation) (E : EmptyFrom 0 table) where
  pub empty-triangular : Triangular table
  empty-triangular =
      record {
        long = E.long;
        above = λ i j l. ap (λ e. unknown e j) (E.empty i zero-le) ∙ empty-unknown j;
        leading = λ i. inr (E.empty i zero-le);
      }

  pub empty-solved : (w : Assignment) → Solves table w
  empty-solved w i = ap (λ e. fails e w) (E.empty i zero-le) ∙ empty_holds w

pub empty-rows : EmptyFrom 0 (equations_in empty_rows)
empty-rows = record { long = refl; empty = λ i l. all 256 i }
  where
    all : (k i : ℕ) → equation_at (replicate k empty_equation) i ≡ empty_equation
    all zero i = refl
    all (suc k) zero = refl
    all (suc k) (suc i) = all k i

-- one more equation taken off, from the end
pub one-emptied : (table : List Equation) (i : ℕ) → i < 256 → EmptyFrom (suc i) table
    → EmptyFrom i (set table i empty_equation)
one-emptied table i few E =
    record { long = length-set table i empty_equation ∙ E.long; empty = λ j l. go j l (ℕ_discrete j i) }
  where
    go : (j : ℕ) → i ≤ j → Dec (j ≡ i) → equation_at (set table i empty_equation) j ≡ empty_equation
    go j l (yes e) =
        ap (equation_at (set table i empty_equation)) e
        ∙ get_or-set_same table i empty_equation empty_equation (subst (λ n. i < n) (sym E.long) few)
    go j l (no o) =
        get_or-set_other table i j empty_equation empty_equation o ∙ E.empty j (lt_of_le-ne l (λ e. o (sym e)))

-- ---- no equation where none has an unknown
pub table-ends : (A : Equation → Type 0) (m : ℕ) (table : List Equation) → TableOf A table
    → ((e : Equation) → A e → Short m e) → EmptyFrom (4 * m) table
table-ends A m table T short =
    record { long = T.triangular.long; empty = λ i l. go i l (T.triangular.leading i) }
  where
    go : (i : ℕ) → 4 * m ≤ i → (unknown (equation_at table i) i ≡ true) ⊎ (equation_at table i ≡ empty_equation)
        → equation_at table i ≡ empty_equation
    go i l (inr p) = p
    go i l (inl t) =
        absurd (true≢false (sym t ∙ sym (reads (equation_at table i)) ∙ T.kept (changed (i % 4) (i / 4) zero_assignment)
        (λ e a. reads e ∙ short e a i l) i))
      where
        reads : (e : Equation) → fails e (changed (i % 4) (i / 4) zero_assignment) ≡ unknown e i
        reads e =
            fails-changed (i % 4) (i / 4) e zero_assignment ∙ ap (λ b. b ⊕ unknown e i) (fails-zero e)

module _ (n : ℕ) (first second : List Generator) (frame : List ℕ) (S : Setting n first second frame)
    (table : List Equation) where
  pub class-ends : ClassTable n first second n 0 table → EmptyFrom (4 * n) table
  class-ends T = table-ends (ClassAsked n first second n 0) n table T (λ e a. short e a.0 a.1 a.3 a.4)
    where
      short : (e : Equation) (s t : ℕ) → (s < n) ⊎ ((s ≡ n) × (t < 0))
          → e ≡ class_equation (get_or first s no_generator) (get_or second t no_generator) → Short n e
      short e s t (inl l) h =
          subst (Short n) (sym h) (class-short n (get_or first s no_generator) (get_or second t no_generator)
          (S.proper.within s l))
      short e s t (inr p) h = absurd (not-suc-le-zero p.1)

  pub sign-ends : (c : ℕ → Clifford) → SignTable n first second c n table → EmptyFrom (4 * n) table
  sign-ends c T = table-ends (SignAsked n first second c n) n table T.0 short
    where
      some : {j : ℕ} → j < n → 0 < n
      some l = omega (arith, l)

      short : (e : Equation) → SignAsked n first second c n e → Short n e
      short e (j, l, F) =
          subst (Short n) (sym F.is)
          (sign-short n (get_or first j no_generator) (F.sent.minus ⊕ F.element.minus) (some l)
          (S.proper.within j l))
