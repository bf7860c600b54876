-- `print_result` meets its contract: the line of step k.
use Rattle.jobs.proofs.ResultLaws.{length-step, length_three, line-parts, three_fields}
use Rattle.jobs.specs.Results.{Result}
use Rattle.text.proofs.HexLaws.{length-decimal, length-field}
use Rattle.buffers.proofs.Writing.{and_then, same-print}
use Rattle.text.specs.Text.{digits, decimal, space}
use lib.ListN.{length-append}
use mathlib.Core.List.{◌++◌}
use native.Mathlib.Omega.{arith}
use Rattle.jobs_impl.proofs.printing.print_result.Goals as goal

pub put_field-after_refusal-requires : goal.put_field-after_refusal-requires
put_field-after_refusal-requires c =
    omega (
      arith,
      length-step c.args.k,
      c.put_long_field-after_k.ensures.end,
      c.put_long_field-after_k.auto,
      c.requires,
    )

pub put_field-after_outcome-requires : goal.put_field-after_outcome-requires
put_field-after_outcome-requires c =
    omega (
      arith,
      length-step c.args.k,
      length-field c.args.refusal,
      c.put_long_field-after_k.ensures.end,
      c.put_long_field-after_k.auto,
      c.put_field-after_refusal.ensures.end,
      c.put_field-after_refusal.auto,
      c.requires,
    )

pub put_decimal-after_determined-requires : goal.put_decimal-after_determined-requires
put_decimal-after_determined-requires c =
    omega (
      arith,
      length-step c.args.k,
      length-field c.args.refusal,
      length-field c.args.outcome,
      c.put_long_field-after_k.ensures.end,
      c.put_long_field-after_k.auto,
      c.put_field-after_refusal.ensures.end,
      c.put_field-after_refusal.auto,
      c.put_field-after_outcome.ensures.end,
      c.put_field-after_outcome.auto,
      c.requires,
    )

pub put-requires : goal.put-requires
put-requires c =
    omega (
      arith,
      length-step c.args.k,
      length-field c.args.refusal,
      length-field c.args.outcome,
      length-decimal c.args.determined,
      c.put_long_field-after_k.ensures.end,
      c.put_long_field-after_k.auto,
      c.put_field-after_refusal.ensures.end,
      c.put_field-after_refusal.auto,
      c.put_field-after_outcome.ensures.end,
      c.put_field-after_outcome.auto,
      c.put_decimal-after_determined.ensures.end,
      c.put_decimal-after_determined.auto,
      c.requires,
    )

pub returns : goal.returns
returns c =
    let a = c.args in
    let r : Result =
    record { refusal = a.refusal; outcome = a.outcome; determined = a.determined } in
    let two = length-append (digits 4 a.k ++ space) (decimal a.refusal ++ space) in
    let all = length-append (three_fields a.k r) (decimal a.determined) in
    let long-k = length-step a.k in
    let long-refusal = length-field a.refusal in
    same-print (line-parts a.k r)
    (and_then (omega (arith, length_three a.k r, length-decimal a.determined, all, c.requires))
    (and_then (omega (arith, length_three a.k r, c.requires))
    (and_then (omega (arith, long-k, long-refusal, two, c.requires))
    (and_then (omega (arith, long-k, c.requires)) c.put_long_field-after_k.ensures c.put_field-after_refusal.ensures)
    c.put_field-after_outcome.ensures) c.put_decimal-after_determined.ensures) c.put.ensures)
