-- What the loops of `turns` keep.
use mathlib.Core.Path.{◌≡◌}
use Prim.Native.Nat.{◌≤◌}
use lib.ListN.{length}
use Rattle.amplitude.specs.internal.KeptTurns.{kept_turns}
use Rattle.operations.specs.internal.InPlace.{record_in}
use Rattle.pauli.specs.Pauli.{exponent}
use Rattle.record.specs.Lent.{held_record}
use Rattle.words.specs.Bits.{bit}
use Rattle.amplitude_impl.proofs.turns.turns.Given as goal

abbrev pub invariant-loop-j : goal.invariant-loop-j
invariant-loop-j l =
    (l.j ≤ length l.neighbours)
    × (l.sum ≡ exponent (kept_turns l.j (held_record (record_in l.neighbours l.codes)) (bit l.y)))
