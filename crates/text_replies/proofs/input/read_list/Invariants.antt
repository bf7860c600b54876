-- What the loop of `read_list` keeps.
use mathlib.Core.Path.{◌≡◌}
use lib.ListN.{length}
use Rattle.text_replies.proofs.Blocks.{Fed}
use Rattle.text_replies.proofs.input.read_list.Given as goal

abbrev pub invariant-loop : goal.invariant-loop
invariant-loop g l = (65536 ≡ length l.block) × Fed l.initial.signs l.initial.z l.initial.x l.scan l.signs l.z l.x
