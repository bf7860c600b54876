-- What the loops of `measured_down` keep.
use Rattle.amplitude_impl.proofs.Downwards.{Down}
use Rattle.amplitude_impl.proofs.lowest.measured_down.Given as goal

abbrev pub invariant-loop-q : goal.invariant-loop-q
invariant-loop-q l = Down l.initial.neighbours l.initial.codes l.neighbours l.codes l.low l.q

abbrev pub decreases-loop-q : goal.decreases-loop-q
decreases-loop-q l = l.q
