-- The equations of one qubit tested in turn, and the rows that hold a table.
use mathlib.Core.Bool.{Bool, false, true, true≢false, false≢true}
use mathlib.Core.List.{List, [], ◌∷◌}
use mathlib.Core.Path.{ap, refl, sym, ◌∙◌, ◌≡◌}
use Prim.Native.Nat.{◌*◌, ◌+◌, ◌<◌, ◌≤◌, suc, zero, ℕ}
use native.Mathlib.Nat.{le_refl, lt_of_lt_of_le}
use native.Mathlib.Omega.{arith}
use lib.ListN.{get_or-map, get_or, set}
use borrow.Author.Count.{below_more}
use Rattle.comparison.specs.internal.Equations.{
  Assignment,
  Equation,
  QubitTested,
  equation_at,
  equation_of,
  fails,
  equations_in,
}

-- ---- the equations of one qubit tested in turn
pub record TestedBelow (table : List Equation) (q : ℕ) (w : Assignment) (i : ℕ) : Type 0 where
  pub from : 4 * q ≤ i
  pub hold : (j : ℕ) → 4 * q ≤ j → j < i → fails (equation_at table j) w ≡ false

module _ (table : List Equation) (q : ℕ) (w : Assignment) where
  pub none-tested : TestedBelow table q w (4 * q)
  none-tested = record { from = le_refl _; hold = λ j l k. absurd (clash l k) }
    where
      clash : {a b : ℕ} → a ≤ b → b < a → ⊥
      clash l k = omega (arith, l, k)

  module _ (i : ℕ) (T : TestedBelow table q w i) where
    pub one_holds : (e : Equation) (f : Bool) → e ≡ equation_at table i → f ≡ fails e w → f ≡ false
        → TestedBelow table q w (i + 1)
    one_holds e f he hf h =
        record {
          from = omega (arith, T.from);
          hold = λ j l k. below_more (λ j. 4 * q ≤ j → fails (equation_at table j) w ≡ false) i
              (λ j k l. T.hold j l k) (λ l. ap (λ e. fails e w) (sym he) ∙ sym hf ∙ h) j k l;
        }

    pub one-fails : i < 4 * q + 4 → (e : Equation) (f : Bool) → e ≡ equation_at table i → f ≡ fails e w → f ≡ true
        → QubitTested table q w true
    one-fails l e f he hf h =
        record {
          found = λ _. (i, T.from, l, ap (λ e. fails e w) (sym he) ∙ sym hf ∙ h);
          hold = λ p. absurd (true≢false p);
        }

    pub all_hold : 4 * q + 4 ≤ i → QubitTested table q w false
    all_hold l = record {
      found = λ p. absurd (false≢true p);
      hold = λ _ j k m. T.hold j k (lt_of_lt_of_le m l);
    }

-- ---- the rows of a table
pub row_at : (rows : List (List ℕ)) (i : ℕ) → equation_at (equations_in rows) i ≡ equation_of (get_or rows i [])
row_at rows i = get_or-map equation_of rows i []

pub row-set : (rows : List (List ℕ)) (i : ℕ) (r : List ℕ) → equations_in (set rows i r) ≡ set (equations_in rows) i
    (equation_of r)
row-set [] i r = refl
row-set (x ∷ rows) zero r = refl
row-set (x ∷ rows) (suc i) r = ap (λ t. equation_of x ∷ t) (row-set rows i r)
