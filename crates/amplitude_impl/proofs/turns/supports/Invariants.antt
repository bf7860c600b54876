-- What the loops of `supports` keep.
use mathlib.Core.Bool.{true}
use mathlib.Core.Path.{◌≡◌}
use Prim.Native.Nat.{◌≤◌}
use lib.ListN.{length}
use Rattle.amplitude.specs.internal.KeptTurns.{fits_at}
use Rattle.operations.specs.internal.InPlace.{record_in}
use Rattle.record.specs.Lent.{held_record}
use Rattle.words.specs.Search.{every}
use Rattle.amplitude_impl.proofs.turns.supports.Given as goal

abbrev pub invariant-loop-j : goal.invariant-loop-j
invariant-loop-j l =
    (l.j ≤ length l.neighbours) × (every l.j (fits_at (held_record (record_in l.neighbours l.codes)) l.y) ≡ true)
