-- What the loop of `first_fit` keeps.
use mathlib.Core.List.{List}
use mathlib.Core.Path.{◌≡◌}
use Prim.Native.Nat.{◌<◌, ℕ}
use Rattle.clifford.specs.Clifford.{Clifford}
use Rattle.comparison.specs.internal.Equations.{Assignment, assignment_of, equations_in}
use Rattle.comparison.proofs.FirstChoices.{MissedBelow}
use Rattle.comparison_search.proofs.choices.first_fit.Given as goal

abbrev pub invariant-loop-v : goal.invariant-loop-v
invariant-loop-v g l =
    (A : (ℕ → Clifford) → Assignment) (next : ℕ → ℕ → Clifford)
    → ((v : ℕ) (w : List ℕ) → v < l.bound → goal.F-post g l.put l.held l.q v w → assignment_of w ≡ A (next v))
    → MissedBelow A (equations_in l.table) l.q next l.bound l.v
