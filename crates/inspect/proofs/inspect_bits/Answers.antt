-- `inspect_bits` meets its contract: the bits C and D of a, as 2C + D; 8 where a is not a code.
use mathlib.Core.Bool.{false}
use mathlib.Core.Path.{◌∙◌, ap₂}
use Rattle.inspect.specs.internal.Answers.{number}
use Rattle.inspect.proofs.OfCode.{is_code, no_code}
use Rattle.inspect.proofs.inspect_bits.Goals as goal

pub returns-then-a-ge24 : goal.returns-then-a-ge24
returns-then-a-ge24 c = no_code c.args.a _ 8 c.if-a-ge24.true

pub returns : goal.returns
returns c =
    is_code c.args.a _ 8 c.if-a-ge24.false
    (c.number_of.ensures
    ∙ ap₂ (number false) c.c_bit-c.ensures c.d_bit-d.ensures)
