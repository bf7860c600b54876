-- What the loops of `turn_each` keep.
use mathlib.Core.Path.{◌≡◌}
use Prim.Native.Nat.{ℕ}
use Rattle.operations_rewriting.proofs.PuttingBefore.{Putting}
use Rattle.operations_rewriting.proofs.FlippedRows.{Flipping}
use Rattle.operations_rewriting.proofs.complements.turn_each.Given as goal

abbrev pub invariant-loop-rest : goal.invariant-loop-rest
invariant-loop-rest g l =
    ((f : ℕ → ℕ) → ((i v : ℕ) → goal.F-post g l.flips i v → v ≡ f i)
    → Flipping l.initial.neighbours l.vertices f l.neighbours l.rest)
    × Putting l.initial.codes l.vertices l.k l.codes l.rest

abbrev pub decreases-loop-rest : goal.decreases-loop-rest
decreases-loop-rest g l = l.rest
