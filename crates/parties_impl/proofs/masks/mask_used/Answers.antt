-- `mask_used` meets its contract: the used qubits of a word.
use Rattle.parties_impl.proofs.OwnWords.{both_words}
use Rattle.parties_impl.proofs.masks.mask_used.Goals as goal

pub returns : goal.returns
returns c = both_words c.args.own c.args.used c.ranges.used.fits
