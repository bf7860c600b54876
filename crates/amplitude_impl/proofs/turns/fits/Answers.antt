-- `fits` meets its contract: the equation of vertex j, with this neighbour word and this code: where it has a Hadamard
-- (C = 1), its bit of y is the sign of its code and the bits of its smaller neighbours.
use Rattle.amplitude_impl.proofs.Vertices.{fits-is}
use Rattle.amplitude_impl.proofs.turns.fits.Goals as goal

pub returns : goal.returns
returns c =
    fits-is c.args.code _ _ _ c.c_bit.ensures c.has.ensures
    c.dot_below.ensures
