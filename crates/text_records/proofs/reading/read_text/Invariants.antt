-- What the loops of `read_text` keep.
use Prim.Native.Nat.{◌-◌}
use lib.ListN.{length}
use Rattle.text_records.proofs.Following.{Followed}
use Rattle.text_records.proofs.reading.read_text.Given as goal

abbrev pub invariant-loop-at : goal.invariant-loop-at
invariant-loop-at l = Followed l.text l.neighbours l.codes l.used l.count l.at

abbrev pub decreases-loop-at : goal.decreases-loop-at
decreases-loop-at l = length l.text - l.at
