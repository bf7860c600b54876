-- Where no class fits there is no choice to look at.
use mathlib.Core.Bool.{false}
use mathlib.Core.List.{List, []}
use Prim.Native.Nat.{ℕ}
use lib.Dec.{lit<}
use mathlib.Core.Bool.{false≢true}
use Rattle.comparison.specs.internal.Equations.{Equation}
use Rattle.comparison.specs.internal.Searches.{ClassesAnswered}

pub none-answered : (n : ℕ) (table : List Equation) (choice : List ℕ) → ClassesAnswered n table false choice
    → ClassesAnswered n table false []
none-answered n table choice N =
    record { none = N.none; some = λ p. absurd (false≢true p); codes = λ q. lit< tt }
