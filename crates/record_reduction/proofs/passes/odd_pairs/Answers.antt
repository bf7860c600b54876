-- `odd_pairs` meets its contract: whether the pairs of Y in a row's letters are odd in number.
use mathlib.Core.Path.{ap}
use Prim.Native.Nat.{◌%◌, ◌/◌}
use lib.Dec.{eqb}
use Rattle.record_reduction.specs.internal.Relative.{half_y}
use Rattle.record_reduction.proofs.passes.odd_pairs.Goals as goal

pub returns : goal.returns
unfolding half_y
returns c = ap (λ k. eqb (k / 2 % 2) 1) c.count.ensures.0
