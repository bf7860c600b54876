-- The codes of a part written at its vertices.
use mathlib.Core.List.{List}
use mathlib.Core.Path.{refl, subst, sym, ◌∙◌, ◌≡◌}
use Prim.Native.Nat.{◌+◌, ◌<◌, ◌≤◌, ℕ}
use native.Mathlib.Nat.{lt_irrefl, lt_of_lt_of_le, not-suc-le-zero}
use native.Mathlib.Omega.{arith}
use lib.ListN.{get_or, length, length-set, set}
use lib.Seq.{get_or-set_other, get_or-set_same}
use borrow.Author.Count.{below_more}

-- the codes of the first i vertices are written
pub record Placing (at chosen old new : List ℕ) (i : ℕ) : Type 0 where
  pub long : length new ≡ 64
  pub written : (j : ℕ) → j < i → get_or new (get_or at j 0) 0 ≡ get_or chosen j 0
  pub kept : (q : ℕ) → ((j : ℕ) → j < i → get_or at j 0 ≡ q → ⊥) → get_or new q 0 ≡ get_or old q 0

pub placing-start : (at chosen old : List ℕ) → length old ≡ 64 → Placing at chosen old old 0
placing-start at chosen old l =
    record { long = l; written = λ j k. absurd (not-suc-le-zero k); kept = λ q h. refl }

pub placing-step : (at chosen old new : List ℕ) (k i : ℕ)
    → ((i j : ℕ) → i < j → j < k → get_or at i 0 < get_or at j 0) → ((i : ℕ) → i < k → get_or at i 0 < 64) → i < k
    → Placing at chosen old new i → Placing at chosen old (set new (get_or at i 0) (get_or chosen i 0)) (i + 1)
placing-step at chosen old new k i rising below l P =
    record {
      long = length-set new (get_or at i 0) (get_or chosen i 0) ∙ P.long;
      written = below_more (λ j. get_or (set new (get_or at i 0) (get_or chosen i 0)) (get_or at j 0) 0 ≡ get_or chosen j 0) i
          (λ j m. get_or-set_other new (get_or at i 0) (get_or at j 0) (get_or chosen i 0) 0
          (λ e. lt_irrefl (get_or at i 0) (subst (λ v. v < get_or at i 0) e (rising j i m l))) ∙ P.written j m)
          (get_or-set_same new (get_or at i 0) (get_or chosen i 0) 0
          (subst (λ m. get_or at i 0 < m) (sym P.long) (below i l)));
      kept = λ q h. get_or-set_other new (get_or at i 0) q (get_or chosen i 0) 0 (λ e. h i end (sym e))
          ∙ P.kept q (λ j m. h j (up m));
    }
  where
    end : i < i + 1
    end = omega arith

    up : {j : ℕ} → j < i → j < i + 1
    up m = omega (arith, m)

pub placing-end : (at chosen old new : List ℕ) (k i : ℕ) → i ≤ k → k ≤ i → Placing at chosen old new i
    → (((j : ℕ) → j < k → get_or new (get_or at j 0) 0 ≡ get_or chosen j 0)
    × ((q : ℕ) → ((j : ℕ) → j < k → get_or at j 0 ≡ q → ⊥) → get_or new q 0 ≡ get_or old q 0))
placing-end at chosen old new k i l m P = (
  (λ j h. P.written j (lt_of_lt_of_le h m)),
  (λ q h. P.kept q (λ j n. h j (lt_of_lt_of_le n l))),
)
