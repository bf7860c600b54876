-- `put_field` meets its contract: a decimal number below 100 and the space behind it.
use native.Mathlib.Omega.{arith}
use Rattle.text.proofs.HexLaws.{length-decimal}
use Rattle.buffers.proofs.Writing.{and_then}
use Rattle.text_impl.proofs.printing.put_field.Goals as goal

pub put-requires : goal.put-requires
put-requires c = omega (arith, length-decimal c.args.k)

pub returns : goal.returns
returns c =
    and_then (omega (
      arith,
      length-decimal c.args.k,
      c.requires,
    ))
    c.put_decimal-next.ensures c.put.ensures
