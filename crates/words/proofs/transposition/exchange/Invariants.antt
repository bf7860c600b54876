-- What the loops of `exchange` keep.
use mathlib.Core.List.{List}
use mathlib.Core.Path.{◌≡◌}
use Prim.Native.Nat.{◌*◌, ◌+◌, ℕ, ◌≤◌}
use lib.ListN.{length}
use Rattle.words.proofs.Exchanging.{Upto}
use Rattle.words.proofs.transposition.exchange.Given as goal

abbrev pub invariant-loop-k : goal.invariant-loop-k
invariant-loop-k l =
    ((l.block ≤ l.k) × (l.k ≤ l.block + l.s)) × ((length l.rows ≡ 64) × ((first : List ℕ) → Upto l.m l.s l.block first l.initial.rows → Upto l.m l.s l.k
    first l.rows))

abbrev pub invariant-loop-i : goal.invariant-loop-i
invariant-loop-i l = Upto l.m l.s (l.i * (2 * l.s)) l.initial.rows l.rows
