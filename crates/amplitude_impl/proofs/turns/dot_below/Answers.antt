-- `dot_below` meets its contract: whether the places below j where both words have a 1 are odd in number.
use Rattle.amplitude_impl.proofs.Vertices.{dot-below}
use Rattle.amplitude_impl.proofs.turns.dot_below.Goals as goal

pub returns : goal.returns
returns c =
    let a = c.args in
    dot-below a.a a.b a.j _ _ c.single.ensures c.dot_product.ensures
