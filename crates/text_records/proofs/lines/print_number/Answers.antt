-- `print_number` meets its contract: the number of a line and the space behind it.
use native.Mathlib.Omega.{arith}
use Rattle.buffers.proofs.Writing.{and_then}
use Rattle.text.proofs.NumeralLaws.{word-places}
use Rattle.text_records.proofs.lines.print_number.Goals as goal

pub put_numeral-behind-requires : goal.put_numeral-behind-requires
put_numeral-behind-requires c =
    omega (arith, c.requires, word-places c.args.q c.ranges.q.fits)

pub put-requires : goal.put-requires
put-requires c =
    omega (
      arith,
      c.requires,
      word-places c.args.q c.ranges.q.fits,
      c.put_numeral-behind.ensures.end,
      c.put_numeral-behind.auto,
    )

pub returns : goal.returns
returns c =
    and_then (omega (arith, c.requires, word-places c.args.q c.ranges.q.fits)) c.put_numeral-behind.ensures
    c.put.ensures
