-- `inspect_image` meets its contract: the image of the letter (z, x) under a, as 4 × sign + 2z + x; 8 where a is not a
-- code.
use mathlib.Core.Path.{◌∙◌}
use Rattle.clifford.specs.Clifford.{clifford_of}
use Rattle.pauli.specs.Pauli.{letter}
use Rattle.inspect.proofs.ImageNumber.{image-number}
use Rattle.inspect.proofs.OfCode.{is_code, no_code}
use Rattle.inspect.proofs.inspect_image.Goals as goal

pub returns-then-a-ge24 : goal.returns-then-a-ge24
returns-then-a-ge24 c = no_code c.args.a _ 8 c.if-a-ge24.true

pub returns : goal.returns
returns c =
    let imaged = c.before.before.before in
    let a = imaged.args in
    is_code a.a _ 8 imaged.if-a-ge24.false
    (c.number_of.ensures
    ∙ image-number (clifford_of a.a) (letter a.z a.x) imaged.image-image.result.minus _ _
    imaged.letter_of.ensures
    imaged.image-image.ensures.letter_value imaged.image-image.ensures.minus_value c.z_bit.ensures
    c.x_bit.ensures)
