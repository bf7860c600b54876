-- What the loops of `read_block` keep.
use mathlib.Core.Path.{◌≡◌}
use lib.ListN.{take}
use Rattle.jobs.specs.internal.Scan.{as_reading, fed}
use Rattle.jobs_impl.proofs.scanning.read_block.Given as goal

abbrev pub invariant-loop-b : goal.invariant-loop-b
invariant-loop-b l =
    as_reading l.scan l.steps ≡ fed (as_reading l.initial.scan l.initial.steps) (take l.b-index l.block)
