-- `inspect_inverse` meets its contract: the inverse of a; 24 where a is not a code.
use Rattle.inspect.proofs.OfCode.{is_code, no_code}
use Rattle.inspect.proofs.inspect_inverse.Goals as goal

pub returns-then-a-ge24 : goal.returns-then-a-ge24
returns-then-a-ge24 c = no_code c.args.a _ 24 c.if-a-ge24.true

pub returns : goal.returns
returns c = is_code c.args.a _ 24 c.if-a-ge24.false c.inverse-c.ensures.0
