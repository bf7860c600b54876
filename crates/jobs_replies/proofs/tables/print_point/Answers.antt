-- `print_point` meets its contract: the line of the word y.
use native.Mathlib.Omega.{arith}
use Rattle.jobs.proofs.ResultLaws.{length-step}
use Rattle.jobs.proofs.TableLaws.{length_float, length-imaginary, length-real, point-parts}
use Rattle.buffers.proofs.Writing.{and_then, same-print}
use Rattle.jobs_replies.proofs.tables.print_point.Goals as goal

pub put_float-after_re-requires : goal.put_float-after_re-requires
put_float-after_re-requires c = (
  c.requires.1.re,
  omega (
    arith,
    length-step c.args.y,
    c.put_long_field-after_y.ensures.end,
    c.put_long_field-after_y.auto,
    c.requires.2,
  ),
)

pub put_float-after_im-requires : goal.put_float-after_im-requires
put_float-after_im-requires c = (
  c.requires.1.im,
  omega (
    arith,
    length-step c.args.y,
    length_float c.args.line.re 32,
    c.put_long_field-after_y.ensures.end,
    c.put_long_field-after_y.auto,
    c.put_float-after_re.ensures.end,
    c.put_float-after_re.auto,
    c.requires.2,
  ),
)

pub put_float-requires : goal.put_float-requires
put_float-requires c = (
  c.requires.1.p,
  omega (
    arith,
    length-step c.args.y,
    length_float c.args.line.re 32,
    length_float c.args.line.im 32,
    c.put_long_field-after_y.ensures.end,
    c.put_long_field-after_y.auto,
    c.put_float-after_re.ensures.end,
    c.put_float-after_re.auto,
    c.put_float-after_im.ensures.end,
    c.put_float-after_im.auto,
    c.requires.2,
  ),
)

pub returns : goal.returns
returns c =
    let a = c.args in
    same-print (point-parts a.y a.line)
    (and_then (omega (arith, length-imaginary a.y a.line, c.requires.2))
    (and_then (omega (arith, length-real a.y a.line, c.requires.2))
    (and_then (omega (arith, length-step a.y, c.requires.2)) c.put_long_field-after_y.ensures
    c.put_float-after_re.ensures) c.put_float-after_im.ensures) c.put_float.ensures)
