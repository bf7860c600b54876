-- `put_numeral` meets its contract: a decimal number of any size.
use mathlib.Core.List.{[], ◌∷◌}
use mathlib.Core.Path.{ap, sym}
use Prim.Native.Nat.{◌%◌, ◌+◌, ◌/◌}
use native.Mathlib.Omega.{arith}
use lib.ListN.{length, length-append}
use Rattle.buffers.proofs.Writing.{and_then, same-print}
use Rattle.text.proofs.NumeralLaws.{numeral-last, numeral-one}
use Rattle.text.specs.RecordTexts.{numeral}
use Rattle.text_impl.proofs.printing.+put_numeral.Goals as goal

pub put-requires : goal.put-requires
put-requires t c = omega (arith, c.requires, ap length (numeral-one c.args.k c.if-k-lt10.true))

pub returns-then-k-lt10 : goal.returns-then-k-lt10
returns-then-k-lt10 t c = same-print (sym (numeral-one c.args.k c.if-k-lt10.true)) c.put.ensures

pub put_numeral-next-requires : goal.put_numeral-next-requires
put_numeral-next-requires t c =
    let k = c.args.k in (
      omega (arith, c.decreases, c.if-k-lt10.false),
      omega (
        arith,
        c.requires,
        ap length (numeral-last k c.if-k-lt10.false),
        length-append (numeral (k / 10)) ((48 + k % 10) ∷ []),
      ),
    )

pub put-requires-2 : goal.put-requires-2
put-requires-2 t c =
    let k = c.args.k in
    omega (
      arith,
      c.requires,
      ap length (numeral-last k c.if-k-lt10.false),
      length-append (numeral (k / 10)) ((48 + k % 10) ∷ []),
      c.put_numeral-next.ensures.end,
      c.put_numeral-next.auto.out,
    )

pub returns : goal.returns
returns t c =
    let k = c.args.k in
    same-print (sym (numeral-last k c.if-k-lt10.false))
    (and_then (omega (
      arith,
      c.requires,
      ap length (numeral-last k c.if-k-lt10.false),
      length-append (numeral (k / 10)) ((48 + k % 10) ∷ []),
    ))
    c.put_numeral-next.ensures c.put-2.ensures)
