-- `merge_used` meets its contract: the used qubits of one word inside another, and of a third outside it.
use Rattle.parties_impl.proofs.OwnWords.{either-word}
use Rattle.parties_impl.proofs.masks.merge_used.Goals as goal

pub returns : goal.returns
returns c =
    either-word c.args.own c.args.new c.args.used _ c.ranges.new.fits c.ranges.used.fits
    c.others.ensures
