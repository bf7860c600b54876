-- `others` meets its contract: the bits that a word has not.
use Rattle.words.proofs.Complement.{other-bits}
use Rattle.words.proofs.others.Goals as goal

pub returns : goal.returns
returns c = other-bits c.args.w c.ranges.w.fits
