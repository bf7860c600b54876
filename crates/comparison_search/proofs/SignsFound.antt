-- There are always signs that fit.
use borrow.Author.Rules.{rules}
use mathlib.Core.List.{List}
use mathlib.Core.Path.{subst, ◌≡◌}
use Prim.Native.Nat.{◌<◌, ◌≤◌, ℕ}
use native.Mathlib.Nat.{le_refl, not-le_of_lt}
use Rattle.std.specs.Prelude.{IsSome, None, Option, Some}
use Rattle.clifford.specs.Clifford.{Clifford}
use Rattle.clifford.specs.Vectors.{codes_of}
use Rattle.comparison.specs.Choices.{sign_key}
use Rattle.comparison.specs.internal.Equations.{Assignment, Equation, Triangular, sign_assignment}
use Rattle.comparison.specs.internal.Searches.{Extendable, FirstFit, SignsChosen, with_signs}
use Rattle.comparison.proofs.LeastChosen.{signs-fit}
use Rattle.comparison_search.specs.internal.Answered.{FirstAnswered}

-- the number that was found
pub some-fit : (A : (ℕ → Clifford) → Assignment) (table : List Equation) (q : ℕ) (next : ℕ → ℕ → Clifford) (bound : ℕ)
    → {r : Option ℕ} {v : ℕ} → r ≡ Some v → FirstAnswered A table q next bound r
    → (v < bound) × FirstFit A table q next bound v
some-fit A table q next bound e F = subst (FirstAnswered A table q next bound) e F

module _ (n : ℕ) (few : n ≤ 64) (table : List Equation) (T : Triangular table)
    (E : Extendable (sign_assignment n) sign_key 0 n table) (start : List ℕ) (q : ℕ) (choice : List ℕ)
    (C : SignsChosen n table start q choice) (inside : q < n) where
  pub signs-found : (r : Option ℕ)
      → FirstAnswered (sign_assignment n) table q (λ u. codes_of (with_signs choice q u)) 4 r → IsSome r
  signs-found (Some v) F = search rules
  signs-found None F =
      absurd (not-le_of_lt (signs-fit n few table T E start q choice C inside 4 F) (le_refl 4))
