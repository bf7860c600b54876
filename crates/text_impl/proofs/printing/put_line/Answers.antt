-- `put_line` meets its contract: the line of qubit q.
use native.Mathlib.Omega.{arith}
use Rattle.text.proofs.RecordLaws.{line-columns}
use Rattle.text.proofs.HexLaws.{length-field}
use Rattle.buffers.proofs.Writing.{and_then, same-print}
use Rattle.text_impl.proofs.printing.put_line.Goals as goal

pub put_columns-requires : goal.put_columns-requires
put_columns-requires c =
    omega (arith, length-field c.args.q, c.put_field-after_q.ensures.end, c.put_field-after_q.auto, c.requires)

pub returns : goal.returns
returns c =
    let a = c.args in
    same-print (line-columns a.q a.line)
    (and_then (omega (arith, length-field a.q, c.requires)) c.put_field-after_q.ensures
    c.put_columns.ensures)
