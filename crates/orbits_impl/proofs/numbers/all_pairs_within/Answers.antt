-- `all_pairs_within` meets its contract: the same for every set of up to 6 vertices.
use Rattle.buffers.proofs.Filling.{fill_end}
use Rattle.orbits_impl.proofs.numbers.all_pairs_within.Goals as goal

pub returns : goal.returns
returns c = fill_end 64 _ _ _ c.loop-set.invariant c.loop-set-test.false
