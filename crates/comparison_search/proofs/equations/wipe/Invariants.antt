-- What the loop of `wipe` keeps.
use mathlib.Core.List.{[]}
use Prim.Native.Nat.{◌<◌, ℕ}
use mathlib.Core.Path.{◌≡◌}
use lib.ListN.{get_or, length}
use Rattle.comparison.specs.internal.Equations.{empty_equation, equation_of}
use Rattle.comparison_search.proofs.equations.wipe.Given as goal

abbrev pub invariant-loop-row : goal.invariant-loop-row
invariant-loop-row l = record {
  long : length l.row-items ≡ l.end;
  wiped : (k : ℕ) → k < l.row-index → equation_of (get_or l.row-items k []) ≡ empty_equation;
}
