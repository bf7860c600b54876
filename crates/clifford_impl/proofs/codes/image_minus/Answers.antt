-- `image_minus` meets its contract: whether the image of a letter is negative.
use Rattle.clifford_impl.proofs.CodeSigns.{image-minus}
use Rattle.clifford_impl.proofs.codes.image_minus.Goals as goal

pub returns : goal.returns
returns c =
    let start = c.before.before in
    image-minus start.args.index start.requires start.args.letter c.x_bit-x.result c.z_bit-z.result
    c.x_bit-x.ensures c.z_bit-z.ensures
