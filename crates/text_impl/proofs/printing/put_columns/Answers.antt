-- `put_columns` meets its contract: the columns behind a qubit's number.
use mathlib.Core.List.{◌++◌}
use native.Mathlib.Omega.{arith}
use lib.ListN.{length-append}
use Rattle.text.specs.RecordTexts.{columns}
use Rattle.text.specs.Text.{hex_text, decimal, space}
use Rattle.text.proofs.HexLaws.{length-field, length-hex}
use Rattle.buffers.proofs.Writing.{and_then}
use Rattle.text_impl.proofs.printing.put_columns.Goals as goal

pub put_word-after_word-requires : goal.put_word-after_word-requires
put_word-after_word-requires c =
    omega (arith, length-field c.args.line.code, c.put_field-after_code.ensures.end, c.put_field-after_code.auto, c.requires)

pub put_used-requires : goal.put_used-requires
put_used-requires c =
    omega (
      arith,
      length-field c.args.line.code,
      length-hex 16 c.args.line.word,
      c.put_field-after_code.ensures.end,
      c.put_word-after_word.ensures.end,
      c.put_field-after_code.auto,
      c.put_word-after_word.auto,
      c.requires,
    )

pub returns : goal.returns
unfolding columns
returns c =
    let a = c.args in
    let long-code = length-field a.line.code in
    let long = length-append (decimal a.line.code ++ space) (hex_text 16 a.line.word) in
    and_then (omega (arith, long-code, long, length-hex 16 a.line.word, c.requires))
    (and_then (omega (arith, long-code, c.requires)) c.put_field-after_code.ensures c.put_word-after_word.ensures)
    c.put_used.ensures
