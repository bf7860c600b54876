-- `without_smallest` meets its contract: a word without its smallest set bit.
use Rattle.words.proofs.Dropping.{drop-smallest}
use Rattle.words.proofs.without_smallest.Goals as goal

pub returns : goal.returns
returns c = drop-smallest c.args.w c.ranges.w.fits c.requires
