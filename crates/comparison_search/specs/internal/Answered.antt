-- The answer of a search for the first choice that fits.
use Rattle.std.specs.Prelude.{Option, Some, None, List, ℕ, ◌<◌}
use Rattle.clifford.specs.Clifford.{Clifford}
use Rattle.comparison.specs.internal.Equations.{Assignment, Equation}
use Rattle.comparison.specs.internal.Searches.{FirstFit}

-- the first of the choices next 0, next 1 and so on that satisfies the equations of qubit q, or that none below bound does
abbrev pub FirstAnswered : ((ℕ → Clifford) → Assignment) → List Equation → ℕ → (ℕ → ℕ → Clifford) → ℕ → Option ℕ → Type 0
FirstAnswered A table q next bound None = FirstFit A table q next bound bound
FirstAnswered A table q next bound (Some v) = (v < bound) × FirstFit A table q next bound v
