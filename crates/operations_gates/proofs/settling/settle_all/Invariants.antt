-- What the loops of `settle_all` keep.
use Prim.Native.Nat.{◌*◌, ◌+◌, ◌^◌}
use lib.ListN.{length}
use Rattle.operations.specs.internal.Settling.{distance}
use Rattle.operations.specs.internal.InPlace.{record_in}
use Rattle.record.specs.Lent.{held_record}
use Rattle.operations_gates.proofs.SettlingLoop.{Settling}
use Rattle.operations_gates.proofs.settling.settle_all.Given as goal

abbrev pub invariant-loop-rest : goal.invariant-loop-rest
invariant-loop-rest l = Settling l.initial.neighbours l.initial.codes l.neighbours l.codes l.rest l.watch

abbrev pub decreases-loop-rest : goal.decreases-loop-rest
decreases-loop-rest l = distance (length l.initial.neighbours) (held_record (record_in l.neighbours l.codes)) * 2 ^ 64 + l.rest
