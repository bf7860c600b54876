-- `meet` meets its contract: whether two words have a bit in common.
use Rattle.parties_impl.proofs.Edges.{common-bit}
use Rattle.parties_impl.proofs.masks.meet.Goals as goal

pub returns : goal.returns
returns c = common-bit c.args.a c.args.b c.ranges.b.fits
