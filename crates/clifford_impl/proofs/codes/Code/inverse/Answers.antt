-- `inverse` meets its contract: the code that undoes this one.
use native.Mathlib.Omega.{arith}
use Rattle.clifford_impl.proofs.CodeDigits.{back-lt}
use Rattle.clifford_impl.proofs.CodeSigns.{inverse-by-calls}
use Rattle.clifford_impl.proofs.codes.Code.inverse.Goals as goal

pub image_letter-requires : goal.image_letter-requires
image_letter-requires c = omega (arith, back-lt c.args.self.index c.requires)

pub image_letter-requires-2 : goal.image_letter-requires-2
image_letter-requires-2 c = omega (arith, back-lt c.args.self.index c.requires)

pub returns : goal.returns
returns c =
    let first = c.before.before in
    let start = first.before.before in
    inverse-by-calls start.args.self.index start.requires first.image_minus-x.result c.image_minus-z.result
    first.image_letter.ensures first.image_minus-x.ensures c.image_letter-2.ensures
    c.image_minus-z.ensures
