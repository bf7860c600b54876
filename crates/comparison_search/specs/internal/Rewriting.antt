-- Equations rewritten by others of a table: a sum with some of them, and a table in which one is added to others.
use Rattle.std.specs.Prelude.{List, ◌↔◌, ◌≡◌}
use Rattle.comparison.specs.internal.Equations.{Assignment, Equation, Solves, Triangular, fails}

-- on the table's solutions the one equation is the other
abbrev pub Summed : List Equation → Equation → Equation → Type 0
Summed table e r = (w : Assignment) → Solves table w → fails r w ≡ fails e w

-- a table with the same solutions
pub record Rewritten (table result : List Equation) : Type 0 where
  pub triangular : Triangular result
  pub same : (w : Assignment) → Solves table w ↔ Solves result w
