-- `square_of` meets its contract: the first n words, copied into a square, and their bits on the diagonal.
use Rattle.record_impl.proofs.Squares.{next_place, own-none, own-one}
use Rattle.record_impl.proofs.checks.square_of.Goals as goal

pub loop-i-init : goal.loop-i-init
loop-i-init c = own-none _ _ _ c.requires.2

pub loop-i-preserved : goal.loop-i-preserved
loop-i-preserved c =
    own-one _ _ _ _ _ _ _ c.requires.0 c.loop-i-test.true c.loop-i.invariant (next_place _ _)
