-- `put_float` meets its contract: the bits of a float that is a number, and a byte behind them.
use native.Mathlib.Omega.{arith}
use lib.Ieee.{binary64, to_bits}
use Rattle.text.proofs.HexLaws.{length-hex}
use Rattle.buffers.proofs.Writing.{and_then}
use Rattle.jobs_replies.proofs.tables.put_float.Goals as goal

pub put-requires : goal.put-requires
put-requires c =
    omega (
      arith,
      length-hex 16 (to_bits binary64 c.args.v),
      c.put_word-next.ensures.end,
      c.put_word-next.auto,
      c.requires.1,
    )

pub returns : goal.returns
returns c =
    and_then (omega (arith, length-hex 16 (to_bits binary64 c.args.v), c.requires.1))
    c.put_word-next.ensures c.put.ensures
