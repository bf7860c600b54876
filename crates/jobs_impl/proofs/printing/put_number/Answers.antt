-- `put_number` meets its contract: a decimal number below 10,000.
use Prim.Native.Nat.{◌+◌, ◌%◌}
use Prim.Native.Nat.{◌/◌}
use Rattle.jobs.proofs.ResultLaws.{number-long, number_short}
use Rattle.text.proofs.HexLaws.{length-decimal}
use Rattle.buffers.proofs.Writing.{and_then, same-print}
use Rattle.text.specs.Text.{decimal}
use lib.ListN.{length-append}
use mathlib.Core.List.{[], ◌∷◌}
use native.Mathlib.Omega.{arith}
use Rattle.jobs_impl.proofs.printing.put_number.Goals as goal

pub returns-then-k-lt100 : goal.returns-then-k-lt100
returns-then-k-lt100 c =
    same-print (number_short _ c.if-k-lt100.true)
    c.put_decimal.ensures

pub put-tens-requires : goal.put-tens-requires
put-tens-requires c =
    omega (
      arith,
      length-decimal (c.args.k / 100),
      c.put_decimal-hundreds.ensures.end,
      c.put_decimal-hundreds.auto,
      c.requires,
    )

pub put-requires : goal.put-requires
put-requires c =
    omega (
      arith,
      length-decimal (c.args.k / 100),
      c.put_decimal-hundreds.ensures.end,
      c.put_decimal-hundreds.auto,
      c.put-tens.ensures.end,
      c.put-tens.auto,
      c.requires,
    )

pub returns : goal.returns
returns c =
    let k = c.args.k in
    let long = length-decimal (k / 100) in
    same-print (number-long k c.if-k-lt100.false c.requires.0)
    (and_then (omega (arith, long, length-append (decimal (k / 100)) ((48 + k / 10 % 10) ∷ []), c.requires))
    (and_then (omega (arith, long, c.requires)) c.put_decimal-hundreds.ensures c.put-tens.ensures)
    c.put.ensures)
