-- `negative` meets its contract: the places where the image of the letter of z and x is negative.
use Rattle.clifford_impl.proofs.Acting.{signs-sent}
use Rattle.clifford_impl.proofs.rows.negative.Goals as goal

pub returns : goal.returns
returns c k W = let a = c.args in signs-sent k a.by W a.z a.x
