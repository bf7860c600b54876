-- `put_long_field` meets its contract: a decimal number below 10,000 and the space behind it.
use Rattle.jobs.proofs.ResultLaws.{length_digits}
use Rattle.buffers.proofs.Writing.{and_then}
use native.Mathlib.Omega.{arith}
use Rattle.jobs_impl.proofs.printing.put_long_field.Goals as goal

pub put-requires : goal.put-requires
put-requires c =
    omega (
      arith,
      length_digits 4 c.args.k,
      c.put_number-next.ensures.end,
      c.put_number-next.auto,
      c.requires,
    )

pub returns : goal.returns
returns c =
    and_then (omega (arith, length_digits 4 c.args.k, c.requires)) c.put_number-next.ensures
    c.put.ensures
