-- `read_printing` meets its contract: the line of qubit q at the start of a text, printed and compared with the text.
use mathlib.Core.Path.{subst, sym}
use mathlib.Core.List.{◌++◌}
use Prim.Native.Nat.{◌<◌, ◌^◌, ℕ, ◌≤◌}
use native.Mathlib.Omega.{arith}
use lib.Seq.{length-take-le}
use lib.ListN.{length, length-append}
use Rattle.text.proofs.NumeralLaws.{word-places}
use Rattle.text.proofs.RecordReading.{read_fits}
use Rattle.text.specs.RecordTexts.{LineFits, numeral}
use Rattle.text.specs.Text.{space}
use Rattle.text_records.proofs.Comparing.{line-other, line-size, line-there}
use Rattle.text_records.proofs.lines.read_printing.Goals as goal

-- the number and its space have at most 21 bytes
short : (q : ℕ) → q < 2 ^ 64 → length (numeral q ++ space) ≤ 21
short q fits = omega (arith, word-places q fits, length-append (numeral q) space)

pub columns_at-line-requires : goal.columns_at-line-requires
columns_at-line-requires c = omega (arith, short c.args.q c.ranges.q.fits, c.print_number-from.ensures.end)

pub put_columns-size-requires : goal.put_columns-size-requires
put_columns-size-requires c =
    let fit : LineFits c.columns_at-line.result = subst LineFits (sym c.columns_at-line.ensures) (read_fits _) in (
      fit.code,
      omega (
        arith,
        short c.args.q c.ranges.q.fits,
        c.print_number-from.ensures.end,
        c.print_number-from.auto,
        c.requires,
      ),
    )

pub slice_bounds-starts_with-end : goal.slice_bounds-starts_with-end
slice_bounds-starts_with-end c =
    let few = short c.args.q c.ranges.q.fits in
    omega (
      arith,
      few,
      line-size c.args.q c.args.text.now c.print_number-from.ensures (omega (arith, few, c.requires))
          c.columns_at-line.ensures c.put_columns-size.ensures,
      c.print_number-from.auto,
      c.put_columns-size.auto,
      c.requires,
    )

pub slice_bounds-starts_with-end-2 : goal.slice_bounds-starts_with-end-2
slice_bounds-starts_with-end-2 c =
    let few = short c.args.q c.ranges.q.fits in
    sym (length-take-le _ _ (omega (
      arith,
      few,
      line-size c.args.q c.args.text.now c.print_number-from.ensures (omega (arith, few, c.requires))
          c.columns_at-line.ensures c.put_columns-size.ensures,
      c.print_number-from.auto,
      c.put_columns-size.auto,
      c.requires,
    )))

pub returns-then-starts_with : goal.returns-then-starts_with
returns-then-starts_with c =
    line-there c.args.q c.args.text.now c.print_number-from.ensures
    (omega (arith, short c.args.q c.ranges.q.fits, c.requires))
    c.columns_at-line.ensures c.put_columns-size.ensures c.starts_with.ensures.value c.if-starts_with.true

pub returns-else-starts_with : goal.returns-else-starts_with
returns-else-starts_with c =
    line-other c.args.q c.args.text.now c.print_number-from.ensures
    (omega (arith, short c.args.q c.ranges.q.fits, c.requires))
    c.columns_at-line.ensures c.put_columns-size.ensures c.starts_with.ensures.value c.if-starts_with.false
