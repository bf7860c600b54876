-- What the loops of `scan_block` keep.
use mathlib.Core.Path.{◌≡◌}
use lib.ListN.{take}
use Rattle.text.specs.internal.Scan.{as_reading, fed}
use Rattle.text_impl.proofs.blocks.scan_block.Given as goal

abbrev pub invariant-loop-b : goal.invariant-loop-b
invariant-loop-b l =
    as_reading l.s l.signs l.z l.x
    ≡ fed (as_reading l.initial.s l.initial.signs l.initial.z l.initial.x) (take l.b-index l.block)
