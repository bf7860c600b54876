-- `inspect_then` meets its contract: first a, then b; 24 where one of them is not a code.
use Rattle.inspect.proofs.OfCode.{is_code, no_code}
use Rattle.inspect.proofs.inspect_then.Goals as goal

pub returns-then-a-ge24 : goal.returns-then-a-ge24
returns-then-a-ge24 c = no_code c.args.a _ 24 c.if-a-ge24.true

pub returns-then-b-ge24 : goal.returns-then-b-ge24
returns-then-b-ge24 c =
    is_code c.args.a _ 24 c.if-a-ge24.false
    (no_code c.args.b _ 24 c.if-b-ge24.true)

pub returns : goal.returns
returns c =
    let a = c.args in
    is_code a.a _ 24 c.if-a-ge24.false
    (is_code a.b _ 24 c.if-b-ge24.false c.then-c.ensures.index_value)
