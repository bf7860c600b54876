-- What the loops of `kept` keep.
use mathlib.Core.Bool.{not}
use Prim.Native.Nat.{◌-◌}
use lib.ListN.{length}
use Rattle.clifford.specs.Clifford.{bit_c}
use Rattle.clifford.specs.Vectors.{codes_of}
use Rattle.amplitude_impl.proofs.FoundWords.{Found}
use Rattle.amplitude_impl.proofs.turns.kept.Given as goal

abbrev pub invariant-loop-i : goal.invariant-loop-i
invariant-loop-i l = Found (λ q. not (bit_c (codes_of l.codes q))) (length l.codes) l.all l.i

abbrev pub decreases-loop-i : goal.decreases-loop-i
decreases-loop-i l = length l.codes - l.i
