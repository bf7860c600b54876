-- What the loops of `reduce_tableau` keep.
use mathlib.Core.List.{[]}
use mathlib.Core.Path.{◌≡◌}
use Prim.Native.Nat.{◌≤◌}
use lib.ListN.{get_or, length}
use Rattle.record_reduction.proofs.Pivoting.{NamedFrom}
use Rattle.record_reduction.proofs.Relating.{Paired}
use Rattle.record_reduction.proofs.Rotating.{Rotated}
use Rattle.record_reduction.specs.internal.Passes.{Eliminated}
use Rattle.record_reduction.proofs.Shearing.{Sheared, without_sign}
use Rattle.record_reduction.specs.internal.Relative.{relative}
use Rattle.words.specs.Bits.{bit}
use Rattle.record_reduction.proofs.Rounds.{Stage}
use Rattle.record_reduction.proofs.reduce_tableau.Given as goal

-- ---- invariants and measures
-- the signs made relative
abbrev pub invariant-loop-k : goal.invariant-loop-k
invariant-loop-k l = Paired l.rows l.initial.signs l.n l.signs l.k

-- the rows with the x bit of a column
abbrev pub invariant-loop-j : goal.invariant-loop-j
invariant-loop-j l = (l.j ≤ l.n) × NamedFrom l.n (λ i. bit (get_or (get_or l.rows i []) 1 0) l.q) l.holders l.j

-- row q multiplied into others
abbrev pub invariant-loop-rest : goal.invariant-loop-rest
invariant-loop-rest l = Sheared l.initial.rows (without_sign l.initial.signs (bit l.initial.signs l.q) l.initial.rest) l.q l.initial.rest l.rows (without_sign l.signs (bit l.initial.signs l.q) l.rest) l.rest

abbrev pub decreases-loop-rest : goal.decreases-loop-rest
decreases-loop-rest l = l.rest

-- the columns passed
abbrev pub invariant-loop-q : goal.invariant-loop-q
invariant-loop-q l =
    (l.q ≤ l.n) × (length l.rows ≡ 64)
    × Eliminated l.n (relative (bit l.initial.signs) l.initial.rows) (bit l.initial.pivots) (relative (bit l.signs) l.rows) (bit l.pivots) l.q

-- the Hadamards
abbrev pub invariant-loop-i : goal.invariant-loop-i
invariant-loop-i l = Rotated l.initial.rows l.initial.signs l.n l.hadamards l.rows l.signs l.i

-- the rounds
abbrev pub invariant-loop-round : goal.invariant-loop-round
invariant-loop-round l = Stage l.n l.all (relative (bit l.initial.signs) l.initial.rows) (relative (bit l.signs) l.rows) l.pivots l.hadamards l.round × (length l.rows ≡ 64)
